-- What lives at a place after one event: it begins by the event, or lived before it.
use Rattle.std.proofs.Common.{arith, ◌≡◌, ℕ, ◌⊎◌, inl, inr, Bool, true, false, List, [], ◌∷◌, refl, sym, ap, subst, Option, Some, None}
use Rattle.std.specs.Prelude.{if◌then◌else◌, ◌&&◌, nat_eq}
use Rattle.amqp_link.specs.Links.{LinkEvent}
use Rattle.amqp_session.specs.declared.slot.Slot.{Slot}
use Rattle.amqp_session.specs.declared.slot.Slot.TheVariants.{Free, Live, Waits}
use Rattle.amqp_session.specs.declared.terms.SessionTerms.{SessionTerms}
use Rattle.amqp_session.specs.Histories as session
use Rattle.amqp_session.specs.Places.{Happens, Nothing, Begins, GoesOn, AllGoOn, Leaves, Gone, AllGone, Life, slot_map, lived_on, life_after}
use Rattle.amqp_session.specs.Sessions as of_session
use Rattle.amqp_session.specs.Sessions.{Attached, SessionEvent}
use Rattle.amqp_session.proofs.Tables.{same_live}
use Rattle.amqp_endpoint.specs.Connections as event
use Rattle.amqp_endpoint.specs.Connections.{ConnectionEvent, happens}
use Rattle.amqp_endpoint.specs.Takings.{attaches_at, attaches_on, part_in}

abbrev Sessions : Type 0
Sessions = Slot (Life SessionTerms SessionEvent)

-- a part with this event more, if there is one
abbrev pub more : {E : Type 0} → Option E → List E → List E
more None h = h
more (Some x) h = x ∷ h

-- What lives after an event, with this part: it begins by the event, or its part goes on from before it, by this event of its own or by none.
abbrev pub Went : {B E : Type 0} → Bool → Option E → Slot (Life B E) → B → List E → Type 0
Went {B} {E} starts x before a h = ((starts ≡ true) × (h ≡ [])) ⊎ ((starts ≡ false) × (past : List E) × (before ≡ Live (a, past)) × (h ≡ more x past))

-- One event at one place. -----------------------------------------------------------------------------------------------

-- a life begins there
abbrev pub begins_there : {B E : Type 0} → ℕ → Happens B E → Bool
begins_there k (Begins place a) = nat_eq place k
begins_there k x = false

-- the event by which the life there goes on
abbrev pub goes_there : {B E : Type 0} → ℕ → Happens B E → Option E
goes_there k (GoesOn place e) = if nat_eq place k then Some e else None
goes_there k (AllGoOn e) = Some e
goes_there k x = None

module _ {B E : Type 0} where
  stays_at : (a : B) (before : Slot (Life B E)) (h : List E) → before ≡ Live (a, h) → Went false None before a h
  stays_at a before h e = inr (refl, h, e, refl)

  begins_at : (b : Bool) (a a0 : B) (before : Slot (Life B E)) (h : List E) → (if b then Live (a0, []) else before) ≡ Live (a, h) → Went b None before a h
  begins_at true a a0 before h e = inl (refl, sym (ap (λ (x : Life B E). x.1) (same_live (a0, []) (a, h) e)))
  begins_at false a a0 before h e = stays_at a before h e

  goes_on : (x : E) (a : B) (before : Slot (Life B E)) (h : List E) → slot_map (λ l. lived_on l x) before ≡ Live (a, h) → Went false (Some x) before a h
  goes_on x a Free h e = absurd (grind (arith, e))
  goes_on x a (Live l) h e =
      let same = same_live (l.0, x ∷ l.1) (a, h) e in
      inr (refl, l.1, ap (λ (y : B). Live (y, l.1)) (ap (λ (y : Life B E). y.0) same), sym (ap (λ (y : Life B E). y.1) same))
  goes_on x a Waits h e = absurd (grind (arith, e))

  goes_at : (b : Bool) (x : E) (a : B) (before : Slot (Life B E)) (h : List E) → (if b then slot_map (λ l. lived_on l x) before else before) ≡ Live (a, h) →
      Went false (if b then Some x else None) before a h
  goes_at true x a before h e = goes_on x a before h e
  goes_at false x a before h e = stays_at a before h e

  leaves_at : (b : Bool) (a : B) (before : Slot (Life B E)) (h : List E) → (if b then Waits else before) ≡ Live (a, h) → Went false None before a h
  leaves_at true a before h e = absurd (grind (arith, e))
  leaves_at false a before h e = stays_at a before h e

  gone_at : (b : Bool) (a : B) (before : Slot (Life B E)) (h : List E) → (if b then Free else before) ≡ Live (a, h) → Went false None before a h
  gone_at true a before h e = absurd (grind (arith, e))
  gone_at false a before h e = stays_at a before h e

  pub went : (k : ℕ) (x : Happens B E) (a : B) (before : Slot (Life B E)) (h : List E) → life_after k x before ≡ Live (a, h) → Went (begins_there k x) (goes_there k x) before a h
  went k Nothing a before h e = stays_at a before h e
  went k (Begins place a0) a before h e = begins_at (nat_eq place k) a a0 before h e
  went k (GoesOn place x) a before h e = goes_at (nat_eq place k) x a before h e
  went k (AllGoOn x) a before h e = goes_on x a before h e
  went k (Leaves place) a before h e = leaves_at (nat_eq place k) a before h e
  went k (Gone place) a before h e = gone_at (nat_eq place k) a before h e
  went k AllGone a before h e = gone_at true a before h e

-- One event of the connection. ------------------------------------------------------------------------------------------

attaches_is : (handle : ℕ) (e : SessionEvent) → attaches_at handle e ≡ begins_there handle (of_session.happens e)
attaches_is handle (of_session.LinkAttached place a) = refl
attaches_is handle e = refl

-- the event by which the link at a handle of the session on a channel goes on
abbrev pub event_at : ℕ → ℕ → ConnectionEvent → Option LinkEvent
event_at channel handle (event.InSession place e) = if nat_eq place channel then goes_there handle (of_session.happens e) else None
event_at channel handle e = None

in_session : (b : Bool) (handle : ℕ) (e : SessionEvent) (x : Sessions) (a : Attached) (h : List LinkEvent) → part_in handle (if b then slot_map (λ l. lived_on l e) x else x) ≡ Live (a, h) →
    Went (b && attaches_at handle e) (if b then goes_there handle (of_session.happens e) else None) (part_in handle x) a h
in_session true handle e Free a h is = absurd (grind (arith, is))
in_session true handle e (Live l) a h is =
    subst (λ (b : Bool). Went b (goes_there handle (of_session.happens e)) (session.part handle l.1) a h) (sym (attaches_is handle e))
    (went handle (of_session.happens e) a (session.part handle l.1) h is)
in_session true handle e Waits a h is = absurd (grind (arith, is))
in_session false handle e x a h is = stays_at a (part_in handle x) h is

-- a session begins, or ends: no link stands in it
stands_not : (b : Bool) (handle : ℕ) (y x : Sessions) (a : Attached) (h : List LinkEvent) → part_in handle y ≡ Free → part_in handle (if b then y else x) ≡ Live (a, h) →
    Went false None (part_in handle x) a h
stands_not true handle y x a h none is = absurd (grind (arith, is, none))
stands_not false handle y x a h none is = stays_at a (part_in handle x) h is

-- a link that lives after an event of the connection
pub went_on : (channel handle : ℕ) (e : ConnectionEvent) (x : Sessions) (a : Attached) (h : List LinkEvent) → part_in handle (life_after channel (happens e) x) ≡ Live (a, h) →
    Went (attaches_on channel handle e) (event_at channel handle e) (part_in handle x) a h
went_on channel handle (event.InSession place e) x a h is = in_session (nat_eq place channel) handle e x a h is
went_on channel handle (event.Begun place terms) x a h is = stands_not (nat_eq place channel) handle (Live (terms, [])) x a h refl is
went_on channel handle (event.SessionFailed place) x a h is = stands_not (nat_eq place channel) handle Waits x a h refl is
went_on channel handle (event.SessionEnded place) x a h is = stands_not (nat_eq place channel) handle Free x a h refl is
went_on channel handle event.HeaderCame x a h is = stays_at a (part_in handle x) h is
went_on channel handle (event.Opened m c said) x a h is = stays_at a (part_in handle x) h is
went_on channel handle event.Ignored x a h is = stays_at a (part_in handle x) h is
went_on channel handle event.HeaderRefused x a h is = stands_not true handle Free x a h refl is
went_on channel handle event.Broken x a h is = stands_not true handle Free x a h refl is
went_on channel handle event.Failed x a h is = stands_not true handle Free x a h refl is
went_on channel handle event.CloseAsked x a h is = stands_not true handle Free x a h refl is
went_on channel handle event.PeerClosed x a h is = stands_not true handle Free x a h refl is
went_on channel handle event.Lost x a h is = stands_not true handle Free x a h refl is
went_on channel handle event.Finished x a h is = stands_not true handle Free x a h refl is
