-- How many messages an event leaves ready on each link.
use Rattle.std.proofs.Common.{arith, ◌≡◌, ℕ, zero, suc, ◌+◌, ◌-◌, ◌≤◌, Bool, true, false, List, [], ◌∷◌, ◌++◌, length, refl, sym, ap, subst, ◌∙◌, Option, Some, None}
use Rattle.std.specs.Prelude.{if◌then◌else◌, nat_eq, slice_get, option_map, unwrap_or}
use Rattle.std.proofs.lemmas.Bool.{eq-eqb}
use Rattle.std.proofs.lemmas.List.{length-append, length-map, length-drop}
use Rattle.amqp_link.specs.Histories.{one_if}
use Rattle.amqp_link.specs.Links.{Delivery, LinkState, LinkEvent, Granted, DrainAsked, Transferred, FlowStated, HandedUp, ReceiverSettled, SenderSettled, link_after, completes, delivery_after}
use Rattle.amqp_link.specs.Links.{sender_settled_by}
use Rattle.amqp_session.specs.declared.slot.Slot.{Slot}
use Rattle.amqp_session.specs.declared.slot.Slot.TheVariants.{Free, Live, Waits}
use Rattle.amqp_session.specs.Calls as session
use Rattle.amqp_session.specs.Calls.{take_event, first_taken}
use Rattle.amqp_session.specs.Places.{Happens, Nothing, Begins, GoesOn, AllGoOn, Leaves, Gone, AllGone, slot_map, slot_after, places_from, tabulate}
use Rattle.amqp_session.specs.Sessions as one
use Rattle.amqp_session.specs.Sessions.{LiveLink, SessionState, SessionEvent, session_begins, session_after, live_begins, live_after, slot_ready}
use Rattle.amqp_session.proofs.Tables.{get_after}
use Rattle.amqp_endpoint.specs.Calls.{slot_event}
use Rattle.amqp_endpoint.specs.Connections as event
use Rattle.amqp_endpoint.specs.Connections.{ConnectionState, ConnectionEvent, connection_after, happens, slot_at}
use Rattle.amqp_endpoint.specs.Takings.{link_in, link_at}

-- A table of places. --------------------------------------------------------------------------------------------------

pub both_same : (b : Bool) (n : ℕ) → (if b then n else n) ≡ n
both_same true n = refl
both_same false n = refl

module _ {B E T : Type 0} (start : B → T) (next : T → E → T) where
  abbrev at : List (Slot T) → ℕ → Slot T
  at slots i = unwrap_or (slice_get slots i) Free

  -- what stands at a place after an event
  at_after : (i : ℕ) (x : Happens B E) (slots : List (Slot T)) → at (places_from start next 0 x slots) i ≡ unwrap_or (option_map (slot_after start next i x) (slice_get slots i)) Free
  at_after i x slots =
      let same : 0 + i ≡ i = omega arith in
      ap (λ (o : Option (Slot T)). unwrap_or o Free)
      (get_after start next 0 i x slots ∙ ap (λ (j : ℕ). option_map (slot_after start next j x) (slice_get slots i)) same)

  -- what an event adds at a place, where one of a life adds so much
  abbrev pub added : (E → ℕ) → ℕ → Happens B E → ℕ
  added more k (GoesOn place e) = if nat_eq place k then more e else 0
  added more k (AllGoOn e) = more e
  added more k x = 0

  module _ (size : Slot T → ℕ) (more : E → ℕ) (free : size Free ≡ 0) (waits : size Waits ≡ 0) (begins : (b : B) → size (Live (start b)) ≡ 0)
      (goes_on : (t : T) (e : E) → size (Live (next t e)) ≤ size (Live t) + more e) where
    on : (e : E) (s : Slot T) → size (slot_map (λ t. next t e) s) ≤ size s + more e
    on e Free = omega (arith, free)
    on e (Live t) = goes_on t e
    on e Waits = omega (arith, waits)

    slot_added : (k : ℕ) (x : Happens B E) (s : Slot T) → size (slot_after start next k x s) ≤ size s + added more k x
    slot_added k Nothing s = omega arith
    slot_added k (Begins place b) s = by (nat_eq place k)
      where
        by : (here : Bool) → size (if here then Live (start b) else s) ≤ size s + 0
        by true = omega (arith, begins b)
        by false = omega arith
    slot_added k (GoesOn place e) s = by (nat_eq place k)
      where
        by : (here : Bool) → size (if here then slot_map (λ t. next t e) s else s) ≤ size s + (if here then more e else 0)
        by true = on e s
        by false = omega arith
    slot_added k (AllGoOn e) s = on e s
    slot_added k (Leaves place) s = by (nat_eq place k)
      where
        by : (here : Bool) → size (if here then Waits else s) ≤ size s + 0
        by true = omega (arith, waits)
        by false = omega arith
    slot_added k (Gone place) s = by (nat_eq place k)
      where
        by : (here : Bool) → size (if here then Free else s) ≤ size s + 0
        by true = omega (arith, free)
        by false = omega arith
    slot_added k AllGone s = omega (arith, free)

    -- an event adds no more than that to what stands at a place
    at_added : (i : ℕ) (x : Happens B E) (slots : List (Slot T)) → size (at (places_from start next 0 x slots) i) ≤ size (at slots i) + added more i x
    at_added i x slots = subst (λ (s : Slot T). size s ≤ size (at slots i) + added more i x) (sym (at_after i x slots)) (by (slice_get slots i))
      where
        by : (o : Option (Slot T)) → size (unwrap_or (option_map (slot_after start next i x) o) Free) ≤ size (unwrap_or o Free) + added more i x
        by None = omega (arith, free)
        by (Some s) = slot_added i x s

-- Links. ----------------------------------------------------------------------------------------------------------------

-- a message is ready with the last transfer of its delivery
abbrev made_by_link : LinkEvent → ℕ
made_by_link (Transferred t) = one_if (completes t)
made_by_link e = 0

link_added : (l : LinkState) (e : LinkEvent) → length (link_after l e).ready ≤ length l.ready + made_by_link e
link_added l (Granted n) = omega arith
link_added l DrainAsked = omega arith
link_added l (Transferred t) = by (completes t)
  where
    d : Delivery
    d = delivery_after l.terms l.unfinished t

    by : (b : Bool) → length (l.ready ++ (if b then d ∷ [] else [])) ≤ length l.ready + one_if b
    by true = omega (arith, length-append l.ready (d ∷ []))
    by false = let none : List Delivery = [] in omega (arith, length-append l.ready none)
link_added l (FlowStated count) = omega arith
link_added l (HandedUp d) = omega (arith, length-drop 1 l.ready)
link_added l (ReceiverSettled first last) = omega arith
link_added l (SenderSettled first last) = omega (arith, length-map l.ready (sender_settled_by first last))

-- what an event of a session makes ready on the link with this handle
abbrev pub made_in : ℕ → SessionEvent → ℕ
made_in handle e = added live_begins live_after made_by_link handle (one.happens e)

session_added : (handle : ℕ) (s : SessionState) (e : SessionEvent) → slot_ready (one.slot_at (session_after s e) handle) ≤ slot_ready (one.slot_at s handle) + made_in handle e
session_added handle s e = at_added live_begins live_after slot_ready made_by_link refl refl (λ b. refl) (λ l x. link_added l.link x) handle (one.happens e) s.links

none_begun : (k n i : ℕ) → unwrap_or (slice_get (tabulate {A = Slot LiveLink} k n (λ j. Free)) i) Free ≡ Free
none_begun k zero i = refl
none_begun k (suc n) zero = refl
none_begun k (suc n) (suc i) = none_begun (suc k) n i

-- what an event makes ready on this link
abbrev pub made : ℕ → ℕ → ConnectionEvent → ℕ
made channel handle e = added session_begins session_after (made_in handle) channel (happens e)

-- Nothing else comes to be ready.
pub ready_added : (s : ConnectionState) (e : ConnectionEvent) (channel handle : ℕ) → slot_ready (link_at (connection_after s e) channel handle) ≤ slot_ready (link_at s channel handle) + made channel handle e
ready_added s e channel handle =
    at_added session_begins session_after (λ x. slot_ready (link_in handle x)) (made_in handle) refl refl
    (λ terms. ap slot_ready (none_begun 0 (one.handles terms) handle)) (λ t x. session_added handle t x) channel (happens e) s.sessions

-- Calls. ------------------------------------------------------------------------------------------------------------------

-- an event of one session makes nothing ready where it does so on none of its links
pub made_none : (place : ℕ) (e : SessionEvent) → ((handle : ℕ) → made_in handle e ≡ 0) → (channel handle : ℕ) → made channel handle (event.InSession place e) ≡ 0
made_none place e none channel handle = ap (λ (n : ℕ). if nat_eq place channel then n else 0) (none handle) ∙ both_same (nat_eq place channel) 0

taken_makes : (handle : ℕ) (y : Slot LiveLink) (h : ℕ) → made_in h (take_event handle y) ≡ 0
taken_makes handle Free h = refl
taken_makes handle (Live l) h = by (slice_get l.link.ready 0)
  where
    by : (o : Option Delivery) → made_in h (first_taken handle o) ≡ 0
    by None = refl
    by (Some d) = both_same (nat_eq handle h) 0
taken_makes handle Waits h = refl

called_makes : (s : SessionState) (c : session.Call) (h : ℕ) → made_in h (session.call_event s c) ≡ 0
called_makes s (session.Widen n) h = refl
called_makes s (session.Grant handle n) h = both_same (nat_eq handle h) 0
called_makes s (session.Drain handle) h = both_same (nat_eq handle h) 0
called_makes s (session.Take handle) h = taken_makes handle (one.slot_at s handle) h
called_makes s (session.Settle id outcome) h = refl
called_makes s (session.SettleRange first last outcome) h = refl
called_makes s (session.Detach handle) h = refl
called_makes s (session.Refuse handle r) h = refl
called_makes s (session.SettleWith id r) h = refl
called_makes s (session.SettleRangeWith first last r) h = refl

-- no call makes anything ready
pub call_makes : (place : ℕ) (x : Slot SessionState) (c : session.Call) (channel handle : ℕ) → made channel handle (slot_event place x c) ≡ 0
call_makes place Free c channel handle = refl
call_makes place (Live s) c channel handle = made_none place (session.call_event s c) (called_makes s c) channel handle
call_makes place Waits c channel handle = refl

-- A take. -----------------------------------------------------------------------------------------------------------------

-- the first of them is no longer ready on the link
link_took : (handle : ℕ) (l : LiveLink) (ds : List Delivery) → l.link.ready ≡ ds →
    slot_ready (slot_after live_begins live_after handle (one.happens (first_taken handle (slice_get ds 0))) (Live l)) ≡ length ds - 1
link_took handle l [] is = ap length is
link_took handle l (d ∷ ds) is =
    ap (λ (b : Bool). slot_ready (if b then Live (live_after l (HandedUp d)) else Live l)) (eq-eqb handle handle refl) ∙ omega (arith, length-drop 1 l.link.ready, ap length is)

slot_took : (handle : ℕ) (o : Option (Slot LiveLink)) →
    slot_ready (unwrap_or (option_map (slot_after live_begins live_after handle (one.happens (take_event handle (unwrap_or o Free)))) o) Free) ≡ slot_ready (unwrap_or o Free) - 1
slot_took handle None = refl
slot_took handle (Some Free) = refl
slot_took handle (Some (Live l)) = link_took handle l l.link.ready refl
slot_took handle (Some Waits) = refl

session_took : (channel handle : ℕ) (o : Option (Slot SessionState)) →
    slot_ready (link_in handle (unwrap_or (option_map (slot_after session_begins session_after channel (happens (slot_event channel (unwrap_or o Free) (session.Take handle)))) o) Free))
    ≡ slot_ready (link_in handle (unwrap_or o Free)) - 1
session_took channel handle None = refl
session_took channel handle (Some Free) = refl
session_took channel handle (Some (Live s)) =
    let e = take_event handle (one.slot_at s handle) in
    ap (λ (b : Bool). slot_ready (link_in handle (if b then Live (session_after s e) else Live s))) (eq-eqb channel channel refl)
    ∙ ap slot_ready (at_after live_begins live_after handle (one.happens e) s.links) ∙ slot_took handle (slice_get s.links handle)
session_took channel handle (Some Waits) = refl

-- of those that are ready on its link a take leaves one less
pub ready_took : (s : ConnectionState) (channel handle : ℕ) →
    slot_ready (link_at (connection_after s (slot_event channel (slot_at s channel) (session.Take handle))) channel handle) ≡ slot_ready (link_at s channel handle) - 1
ready_took s channel handle =
    ap (λ (x : Slot SessionState). slot_ready (link_in handle x))
    (at_after session_begins session_after channel (happens (slot_event channel (slot_at s channel) (session.Take handle))) s.sessions)
    ∙ session_took channel handle (slice_get s.sessions channel)
