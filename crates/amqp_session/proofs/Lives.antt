-- Each link of a session has its own life, and keeps within what it may.
use Rattle.std.proofs.Common.{arith, ◌≡◌, ℕ, ◌+◌, ◌<◌, ◌≤◌, inl, inr, subst, Bool, true, false, List, [], ◌∷◌, refl, ap, ◌∙◌, Option, Some, None}
use Rattle.std.specs.Prelude.{nat_eq, nat_lt, slice_get, option_map, unwrap_or, if◌then◌else◌}
use Rattle.std.proofs.lemmas.Bool.{cases_Bool, ltb-true, ltb-false}
use Rattle.amqp_link.specs.declared.terms.Terms.{Terms}
use Rattle.amqp_link.specs.Links.{LinkEvent, Granted, open_count}
use Rattle.amqp_link.specs.Histories as link
use Rattle.amqp_session.specs.declared.slot.Slot.{Slot}
use Rattle.amqp_session.specs.declared.slot.Slot.TheVariants.{Free, Live, Waits}
use Rattle.amqp_session.specs.declared.terms.SessionTerms.{SessionTerms}
use Rattle.amqp_session.specs.Places.{Happens, Nothing, Begins, GoesOn, AllGoOn, Leaves, Gone, AllGone, Life, IfLive, slot_map, slot_after, new_life, lived_on, life_after}
use Rattle.amqp_session.specs.Places.{life_state}
use Rattle.amqp_session.specs.Sessions.{Attached, LiveLink, live_begins, live_after, SessionState, SessionEvent, LinkAttached, Called, happens, session_after, SessionMay, slot_at, handles}
use Rattle.amqp_session.specs.Histories.{part, live_state, state_of, IsSoundPart, Sound}
use Rattle.amqp_session.specs.Laws.{IsElsewhere, credit_in, credit_at, granted_in, granted_at}
use Rattle.amqp_session.proofs.Accepts.{live_at}
use Rattle.amqp_session.proofs.Places.{got, get_at, none_above}
use Rattle.amqp_session.proofs.Tables.{elsewhere, hit, get_after}

-- an event of another handle leaves a handle's part as it was
pub part_elsewhere : (handle : ℕ) (h : List SessionEvent) (e : SessionEvent) → IsElsewhere handle (happens e) → part handle (e ∷ h) ≡ part handle h
part_elsewhere handle h e away = elsewhere new_life lived_on handle (happens e) (part handle h) away

-- an attach begins a part
pub part_anew : (handle : ℕ) (a : Attached) (h : List SessionEvent) → part handle (LinkAttached handle a ∷ h) ≡ Live (a, [])
part_anew handle a h = hit new_life lived_on handle (Live (new_life a)) (part handle h)

slot_get : (s : SessionState) (e : SessionEvent) (handle : ℕ) →
    slice_get (session_after s e).links handle ≡ option_map (slot_after live_begins live_after handle (happens e)) (slice_get s.links handle)
slot_get s e handle =
    let same : 0 + handle ≡ handle = omega arith in
    get_after live_begins live_after 0 handle (happens e) s.links ∙ ap (λ (j : ℕ). option_map (slot_after live_begins live_after j (happens e)) (slice_get s.links handle)) same

-- an event of another handle leaves what stands at a handle
pub slot_elsewhere : (s : SessionState) (handle : ℕ) (e : SessionEvent) → IsElsewhere handle (happens e) → slot_at (session_after s e) handle ≡ slot_at s handle
slot_elsewhere s handle e away = ap (λ (o : Option (Slot LiveLink)). unwrap_or o Free) (slot_get s e handle) ∙ by (slice_get s.links handle)
  where
    by : (o : Option (Slot LiveLink)) → unwrap_or (option_map (slot_after live_begins live_after handle (happens e)) o) Free ≡ unwrap_or o Free
    by None = refl
    by (Some x) = elsewhere live_begins live_after handle (happens e) x away

-- an attach puts a new link there
pub slot_anew : (s : SessionState) (handle : ℕ) (a : Attached) → SessionMay s (LinkAttached handle a) → slot_at (session_after s (LinkAttached handle a)) handle ≡ Live (live_begins a)
slot_anew s handle a may =
    ap (λ (o : Option (Slot LiveLink)). unwrap_or o Free) (slot_get s (LinkAttached handle a) handle)
    ∙ ap (λ (o : Option (Slot LiveLink)). unwrap_or (option_map (slot_after live_begins live_after handle (Begins handle a)) o) Free) may.2.0
    ∙ hit live_begins live_after handle (Live (live_begins a)) Free

-- Credit and open deliveries of each live link are within what is allowed.
pub link_within : (terms : SessionTerms) (h : List SessionEvent) (handle : ℕ) (l : LiveLink) → Sound terms h → slot_at (state_of terms h) handle ≡ Live l →
    l.link.credit + open_count l.link ≤ l.link.terms.bounds.allowed
link_within terms h handle l sound here =
    let at = got (handles terms) (λ k. life_state live_state (part k h)) handle (Live l) (live_at (state_of terms h) handle l here) in
    subst (λ (x : Slot LiveLink). IfLive (λ l. l.link.credit + open_count l.link ≤ l.link.terms.bounds.allowed) x) at.1 (by (part handle h) (sound.links handle at.0))
  where
    by : (p : Slot (Life Attached LinkEvent)) → IfLive (λ l. IsSoundPart terms l.0 l.1) p →
        IfLive (λ (l : LiveLink). l.link.credit + open_count l.link ≤ l.link.terms.bounds.allowed) (life_state live_state p)
    by Free sound = tt
    by (Live life) sound =
        sound.link.within
    by Waits sound = tt

-- What happens at a handle to its part.
after_here : (handle : ℕ) (x : Happens Attached LinkEvent) (e : SessionEvent) (h : List SessionEvent) → happens e ≡ x → part handle (e ∷ h) ≡ life_after handle x (part handle h)
after_here handle x e h is = ap (λ (y : Happens Attached LinkEvent). life_after handle y (part handle h)) is

-- an event of a link is added to its part
pub part_goes_on : (handle : ℕ) (h : List SessionEvent) (e : SessionEvent) (a : Attached) (before : List LinkEvent) (x : LinkEvent) → happens e ≡ GoesOn handle x → part handle h ≡ Live (a, before) →
    part handle (e ∷ h) ≡ Live (a, x ∷ before)
part_goes_on handle h e a before x is live =
    after_here handle (GoesOn handle x) e h is ∙ hit new_life lived_on handle _ (part handle h) ∙ ap (λ (p : Slot (Life Attached LinkEvent)). slot_map (λ life. lived_on life x) p) live

-- an event of all links is added to each part
pub part_all_go_on : (handle : ℕ) (h : List SessionEvent) (e : SessionEvent) (a : Attached) (before : List LinkEvent) (x : LinkEvent) → happens e ≡ AllGoOn x → part handle h ≡ Live (a, before) →
    part handle (e ∷ h) ≡ Live (a, x ∷ before)
part_all_go_on handle h e a before x is live = after_here handle (AllGoOn x) e h is ∙ ap (λ (p : Slot (Life Attached LinkEvent)). slot_map (λ life. lived_on life x) p) live

-- a part ends where this side detaches
pub part_leaves : (handle : ℕ) (h : List SessionEvent) (e : SessionEvent) → happens e ≡ Leaves handle → part handle (e ∷ h) ≡ Waits
part_leaves handle h e is = after_here handle (Leaves handle) e h is ∙ hit new_life lived_on handle Waits (part handle h)

-- and is gone once the peer has
pub part_gone : (handle : ℕ) (h : List SessionEvent) (e : SessionEvent) → happens e ≡ Gone handle → part handle (e ∷ h) ≡ Free
part_gone handle h e is = after_here handle (Gone handle) e h is ∙ hit new_life lived_on handle Free (part handle h)

-- Credit. -------------------------------------------------------------------------------------------------------------------

-- what a link owes to its session
abbrev pub CreditMost : Type 0
CreditMost = (terms : Terms) (h : List LinkEvent) (e : LinkEvent) → link.credit terms (e ∷ h) ≤ link.credit terms h + link.granted_by e

-- the law that a grant raises credit by exactly as much
abbrev pub CreditGranted : Type 0
CreditGranted = (terms : Terms) (h : List LinkEvent) (n : ℕ) → link.Sound terms h → link.credit terms (Granted n ∷ h) ≡ link.credit terms h + n

-- the credit of a part
abbrev credit_of : Slot (Life Attached LinkEvent) → ℕ
credit_of p = credit_in (life_state live_state p)

at_most : (b : Bool) (p q : Slot (Life Attached LinkEvent)) (before n : ℕ) → credit_of p ≤ before + n → credit_of q ≤ before → credit_of (if b then p else q) ≤ before + (if b then n else 0)
at_most true p q before n here other = here
at_most false p q before n here other = omega (arith, other)

gone_most : (b : Bool) (p q : Slot (Life Attached LinkEvent)) (before : ℕ) → credit_of p ≤ before → credit_of q ≤ before → credit_of (if b then p else q) ≤ before + 0
gone_most true p q before here other = omega (arith, here)
gone_most false p q before here other = omega (arith, other)

going_most : CreditMost → (e : LinkEvent) (p : Slot (Life Attached LinkEvent)) → credit_of (slot_map (λ life. lived_on life e) p) ≤ credit_of p + link.granted_by e
going_most law e Free = omega arith
going_most law e (Live l) = law l.0.terms l.1 e
going_most law e Waits = omega arith

part_most : CreditMost → (k : ℕ) (x : Happens Attached LinkEvent) (p : Slot (Life Attached LinkEvent)) → credit_of (life_after k x p) ≤ credit_of p + granted_in k x
part_most law k Nothing p = omega arith
part_most law k (Begins place begin) p = gone_most (nat_eq place k) (Live (new_life begin)) p (credit_of p) (omega arith) (omega arith)
part_most law k (GoesOn place e) p = at_most (nat_eq place k) _ p (credit_of p) (link.granted_by e) (going_most law e p) (omega arith)
part_most law k (AllGoOn e) p = going_most law e p
part_most law k (Leaves place) p = gone_most (nat_eq place k) Waits p (credit_of p) (omega arith) (omega arith)
part_most law k (Gone place) p = gone_most (nat_eq place k) Free p (credit_of p) (omega arith) (omega arith)
part_most law k AllGone p = omega arith

-- what stands at a handle is what its part gives, or nothing
slot_of_part : (terms : SessionTerms) (h : List SessionEvent) (handle : ℕ) → handle < handles terms → slot_at (state_of terms h) handle ≡ life_state live_state (part handle h)
slot_of_part terms h handle l = ap (λ (o : Option (Slot LiveLink)). unwrap_or o Free) (get_at (handles terms) (λ k. life_state live_state (part k h)) handle l)

slot_above : (terms : SessionTerms) (h : List SessionEvent) (handle : ℕ) → handles terms ≤ handle → slot_at (state_of terms h) handle ≡ Free
slot_above terms h handle l = ap (λ (o : Option (Slot LiveLink)). unwrap_or o Free) (none_above 0 (handles terms) (λ k. life_state live_state (part k h)) handle l)

-- nothing else raises credit
pub credit_most : CreditMost → (terms : SessionTerms) (h : List SessionEvent) (e : SessionEvent) (handle : ℕ) →
    credit_at (state_of terms (e ∷ h)) handle ≤ credit_at (state_of terms h) handle + granted_at handle e
credit_most law terms h e handle = elim (cases_Bool (nat_lt handle (handles terms))) [
  | inl small ↦ (
      let l = ltb-true handle (handles terms) small in
      let before = ap credit_in (slot_of_part terms h handle l) in
      let after = ap credit_in (slot_of_part terms (e ∷ h) handle l) in omega (arith, before, after, part_most law handle (happens e) (part handle h))
      )
  | inr large ↦ (
      let l = ltb-false handle (handles terms) large in
      let after = ap credit_in (slot_above terms (e ∷ h) handle l) in omega (arith, after)
      )
]

-- a grant for a live link is added to its credit
pub credit_granted : CreditGranted → (terms : SessionTerms) (h : List SessionEvent) (handle n : ℕ) (l : LiveLink) → Sound terms h → slot_at (state_of terms h) handle ≡ Live l →
    credit_at (state_of terms (Called handle (Granted n) ∷ h)) handle ≡ l.link.credit + n
credit_granted law terms h handle n l sound here =
    let at = got (handles terms) (λ k. life_state live_state (part k h)) handle (Live l) (live_at (state_of terms h) handle l here) in
    ap credit_in (slot_of_part terms (Called handle (Granted n) ∷ h) handle at.0) ∙ ap credit_of (hit new_life lived_on handle _ (part handle h))
    ∙ by (part handle h) (sound.links handle at.0) at.1
  where
    by : (p : Slot (Life Attached LinkEvent)) → IfLive (λ l. IsSoundPart terms l.0 l.1) p → life_state live_state p ≡ Live l →
        credit_of (slot_map (λ life. lived_on life (Granted n)) p) ≡ l.link.credit + n
    by Free sound is = absurd (grind (arith, is))
    by (Live life) sound is =
        let same : link.credit life.0.terms life.1 ≡ l.link.credit = ap credit_in is in omega (arith, law life.0.terms life.1 n sound.link, same)
    by Waits sound is = absurd (grind (arith, is))
