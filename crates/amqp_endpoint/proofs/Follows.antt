-- What an application asks behind what it was told is accepted, of an endpoint that was used.
use Rattle.std.proofs.Common.{arith, ◌≡◌, ℕ, zero, suc, ◌+◌, ◌^◌, ◌<◌, ◌≤◌, Bool, true, false, cond, List, [], ◌∷◌, ◌++◌, find, refl, sym, ap, ◌∙◌, subst, Option, Some, None}
use Rattle.std.specs.Prelude.{if◌then◌else◌, slice_get, nat_lt}
use Rattle.std.specs.List.{AllByRecursion, list_any, count_by}
use Rattle.std.proofs.lemmas.Bool.{eq-eqb, ltb-true, or_parts}
use Rattle.std.proofs.lemmas.List.Sums.{sum_by-append}
use Rattle.std.proofs.lemmas.Option.{same_Some}
use Rattle.amqp_link.specs.declared.settlement.Standing.{Standing}
use Rattle.amqp_link.specs.declared.settlement.Standing.TheVariants.{Untaken, Told, Awaiting}
use Rattle.amqp_link.specs.Histories as link
use Rattle.amqp_link.specs.Laws.{id_count}
use Rattle.amqp_link.specs.Links.{Delivery, LinkState, HandedUp, open_set, untaken, has_id, standing_at, standing_of, left_open, first_ready, open_count}
use Rattle.amqp_perform.specs.declared.modes.ReceiverSettleMode.{ReceiverSettleMode}
use Rattle.amqp_perform.specs.declared.outcome.Outcome.{Outcome}
use Rattle.amqp_session.specs.declared.slot.Slot.{Slot}
use Rattle.amqp_session.specs.declared.slot.Slot.TheVariants.{Free, Live, Waits}
use Rattle.amqp_session.specs.Calls.{Take, Settle, Grant, Widen, take_event, first_taken, slot_standing, or_later, standing_in, standing_fault}
use Rattle.amqp_session.specs.Faults.{or_else}
use Rattle.amqp_session.specs.Sessions as one
use Rattle.amqp_session.specs.Sessions.{LiveLink, SessionState, SessionEvent, Called, live_begins, live_after, session_begins, session_after, slot_count, table_count, IsApart}
use Rattle.amqp_session.specs.declared.fault.CallFault as of_session
use Rattle.amqp_session.proofs.Ids.{table_cons}
use Rattle.amqp_session.proofs.RangeFaults.{settle_is}
use Rattle.amqp_session.proofs.Standings.{count_cons, slot_within, parts_count, none_has, absent_none, some_stands}
use Rattle.amqp_session.proofs.Tables.{found}
use Rattle.amqp_endpoint.specs.declared.fault.CallFault.{CallFault}
use Rattle.amqp_endpoint.specs.Calls.{call_fault, call_event, slot_event, at_session, of_option, full_fault, has_room}
use Rattle.amqp_endpoint.specs.Configs.{Configured, bounds_for}
use Rattle.amqp_endpoint.specs.Connections as event
use Rattle.amqp_endpoint.specs.Connections.{ConnectionState, ConnectionEvent, connection_after, slot_at, is_open}
use Rattle.amqp_endpoint.specs.declared.event.Event.TheVariants as told
use Rattle.amqp_endpoint.specs.declared.event.Outcome.TheVariants as outcome
use Rattle.amqp_endpoint.specs.Takings.{link_in, link_at}
use Rattle.amqp_link.specs.declared.terms.LinkBounds.{LinkBounds}
use Rattle.amqp_endpoint.specs.Histories.{state_of, Sound}
use Rattle.amqp_endpoint.specs.Runs.{Handed, handed_of, handed, link_handed, accepted_answer, InSession, HandedUp as Given, Does, events}
use Rattle.amqp_endpoint.specs.Steps.{EndpointState, IsFed}
use Rattle.amqp_endpoint.specs.Uses.{IsUsed, IsAccepted, granted_over, messages_over}
use Rattle.amqp_endpoint.specs.Traces.{told_by}
use Rattle.amqp_endpoint.proofs.Living.{wide_here, apart_here, bounds_here}
use Rattle.amqp_endpoint.proofs.Next.{goes_on_there, with_room, take_accepted, grant_accepted, widen_accepted}
use Rattle.amqp_endpoint.proofs.Steps.{ConnectionBegins, ConnectionGoesOn, all_sound}
use Rattle.amqp_endpoint.proofs.Untold.{IsUntold, ConnectionUntold, all_untold, untold_at}
use Rattle.amqp_endpoint.proofs.Uses.{RunsAreWhole, whole_run, use_goes_on}

-- Standings. ----------------------------------------------------------------------------------------------------------------

-- the last of some deliveries is found by its id, where no other has it
find_last : (id : ℕ) (ds : List Delivery) (d : Delivery) → count_by (has_id id) ds ≡ 0 → has_id id d ≡ true → find (has_id id) (ds ++ d ∷ []) ≡ Some d
find_last id [] d none has = ap (λ (b : Bool). cond b (Some d) None) has
find_last id (x ∷ ds) d none has =
    let other = (or_parts (has_id id x) (list_any (has_id id) ds) (none_has id (x ∷ ds) none)).0 in
    ap (λ (b : Bool). cond b (Some x) (find (has_id id) (ds ++ d ∷ []))) other ∙ find_last id ds d (omega (arith, none, count_cons id x ds)) has

awaits_at : (d : Delivery) → IsUntold d → standing_at (Some d) ≡ Awaiting d.rcv_settle_mode
awaits_at d untold = ap (λ (b : Bool). if b then Told else Awaiting d.rcv_settle_mode) untold

-- a delivery that was handed up last awaits what becomes of it, where no other open one has its id
last_awaits : (id : ℕ) (l : LinkState) (ds : List Delivery) (d : Delivery) → l.awaiting ≡ ds ++ d ∷ [] → has_id id d ≡ true → IsUntold d → id_count id l ≤ 1 →
    standing_of id (open_set l) ≡ Awaiting d.rcv_settle_mode
last_awaits id l ds d is has untold few =
    let one : link.one_if (has_id id d) ≡ 1 = ap link.one_if has in
    let count = ap (count_by (has_id id)) is ∙ sum_by-append (λ x. link.one_if (has_id id x)) ds (d ∷ []) in
    let of_one = count_cons id d [] in
    let none = none_has id (untaken (open_set l)) (omega (arith, few, parts_count id l, count, of_one, one)) in
    ap (λ (b : Bool). if b then Untaken else standing_at (find (has_id id) l.awaiting)) none
    ∙ ap (λ (xs : List Delivery). standing_at (find (has_id id) xs)) is
    ∙ ap standing_at (find_last id ds d (omega (arith, few, parts_count id l, count, of_one, one)) has)
    ∙ awaits_at d untold

-- it stands so in the session
stands_in : (id : ℕ) (mode : ReceiverSettleMode) (slots : List (Slot LiveLink)) (k : ℕ) (l : LiveLink) → table_count id slots ≤ 1 → slice_get slots k ≡ Some (Live l) →
    slot_standing id (Live l) ≡ Awaiting mode → standing_in id slots ≡ Awaiting mode
stands_in id mode [] k l few get stands = absurd (grind (arith, get))
stands_in id mode (s ∷ slots) zero l few get stands =
    ap (λ (x : Standing). or_later x (standing_in id slots)) (ap (slot_standing id) (same_Some s (Live l) get) ∙ stands)
stands_in id mode (s ∷ slots) (suc k) l few get stands =
    let none = absent_none id s (omega (arith, few, table_cons id s slots, slot_within id slots k (Live l) get, some_stands id (Live l) mode stands)) in
    ap (λ (x : Standing). or_later x (standing_in id slots)) none ∙ stands_in id mode slots k l (omega (arith, few, table_cons id s slots)) get stands

-- What was taken. -----------------------------------------------------------------------------------------------------------

-- the link, its session and the delivery that a take hands up
record Took (s : ConnectionState) (channel handle : ℕ) (d : Handed) : Type 0 where
  pub session : SessionState
  pub live : slot_at s channel ≡ Live session
  pub link : LiveLink
  pub attached : one.slot_at session handle ≡ Live link
  pub delivery : Delivery
  pub first : first_ready link.link ≡ Some delivery
  pub is : d ≡ handed_of delivery

took : (s : ConnectionState) (channel handle : ℕ) (d : Handed) → Given d ≡ accepted_answer (slot_at s channel) (Take handle) → Took s channel handle d
took s channel handle d answer = by_session (slot_at s channel) refl answer
  where
    by_first : (t : SessionState) (l : LiveLink) → slot_at s channel ≡ Live t → one.slot_at t handle ≡ Live l → (o : Option Delivery) → first_ready l.link ≡ o → Given d ≡ handed o → Took s channel handle d
    by_first t l here there None is a = absurd (grind (arith, a))
    by_first t l here there (Some x) is a = record { session = t; live = here; link = l; attached = there; delivery = x; first = is; is = grind (arith, a) }

    by_link : (t : SessionState) → slot_at s channel ≡ Live t → (y : Slot LiveLink) → one.slot_at t handle ≡ y → Given d ≡ link_handed y → Took s channel handle d
    by_link t here Free is a = absurd (grind (arith, a))
    by_link t here (Live l) is a = by_first t l here is (first_ready l.link) refl a
    by_link t here Waits is a = absurd (grind (arith, a))

    by_session : (x : Slot SessionState) → slot_at s channel ≡ x → Given d ≡ accepted_answer x (Take handle) → Took s channel handle d
    by_session Free is a = absurd (grind (arith, a))
    by_session (Live t) is a = by_link t is (one.slot_at t handle) refl a
    by_session Waits is a = absurd (grind (arith, a))

-- the first of a list that passes a test does
first_untold : (ds : List Delivery) (d : Delivery) → slice_get ds 0 ≡ Some d → AllByRecursion IsUntold ds → IsUntold d
first_untold [] d is all = absurd (grind (arith, is))
first_untold (x ∷ ds) d is all = subst IsUntold (same_Some x d is) all.0

none_before : {A : Type 0} (a b : Option A) → or_else a b ≡ None → a ≡ None
none_before None b e = refl
none_before (Some x) b e = absurd (grind (arith, e))

at_most_one : (b : Bool) → link.one_if b ≤ 1
at_most_one true = omega arith
at_most_one false = omega arith

left_there : (d : Delivery) → d.settled ≡ false → left_open d ≡ record d { message = [] } ∷ []
left_there d unsettled = ap (λ (b : Bool). if b then [] else record d { message = [] } ∷ []) unsettled

-- a settle directly behind the take of an unsettled delivery is accepted, where there is room for what it writes
pub settle_accepted : ConnectionBegins → ConnectionGoesOn → RunsAreWhole → (config : Configured) (place at granted messages : ℕ) (old new : EndpointState) (channel handle : ℕ) (d : Handed)
    (outcome : Outcome) → IsUsed config place at granted messages old → Does old new (InSession channel (Take handle)) (Given d) → d.settled ≡ false → IsAccepted new channel (Settle d.delivery_id outcome)
settle_accepted begins goes_on law config place at granted messages old new channel handle d outcome u does unsettled = λ unsent room.
    ap (λ (c : ConnectionState). call_fault c unsent channel (Settle d.delivery_id outcome)) is
    ∙ ap (λ (o : Option CallFault). or_else o (or_else (at_session (slot_at after channel) (Settle d.delivery_id outcome)) (full_fault unsent))) (none_before _ _ does.0)
    ∙ ap (λ (y : Slot SessionState). or_else (at_session y (Settle d.delivery_id outcome)) (full_fault unsent)) session
    ∙ ap (λ (o : Option of_session.CallFault). or_else (of_option o) (full_fault unsent)) (settle_is t d.delivery_id apart small)
    ∙ ap (λ (x : Standing). or_else (of_option (standing_fault x)) (full_fault unsent)) stands
    ∙ with_room unsent (room refl)
  where
    x : Took old.connection channel handle d
    x = took old.connection channel handle d does.2

    e : SessionEvent
    e = Called handle (HandedUp x.delivery)

    after : ConnectionState
    after = connection_after old.connection (event.InSession channel e)

    which : call_event old.connection channel (Take handle) ≡ event.InSession channel e
    which =
        ap (λ (y : Slot SessionState). slot_event channel y (Take handle)) x.live ∙ ap (λ (y : Slot LiveLink). event.InSession channel (take_event handle y)) x.attached
        ∙ ap (λ (o : Option Delivery). event.InSession channel (first_taken handle o)) x.first

    is : new.connection ≡ after
    is = does.1.connection ∙ ap (λ (v : ConnectionEvent). connection_after old.connection v) which

    t : SessionState
    t = session_after x.session e

    session : slot_at after channel ≡ Live t
    session = goes_on_there session_begins session_after old.connection.sessions channel e x.session x.live

    l : LiveLink
    l = live_after x.link (HandedUp x.delivery)

    get : slice_get t.links handle ≡ Some (Live l)
    get = found (slice_get t.links handle) (Live l) (goes_on_there live_begins live_after x.session.links handle (HandedUp x.delivery) x.link x.attached) tt

    apart : IsApart t
    apart =
        let run = whole_run law config place at (granted + granted_over place at (told_by (InSession channel (Take handle)) (Given d))) (messages + messages_over place at (told_by (InSession channel (Take handle)) (Given d))) new
        (use_goes_on config place at granted messages old new (InSession channel (Take handle)) (Given d) u tt does) in
        apart_here config (events config run.past.history) run.past.traced.sound channel t (ap (λ (c : ConnectionState). slot_at c channel) (sym run.past.traced.state ∙ is) ∙ session)

    untold : IsUntold x.delivery
    untold =
        let run = whole_run law config place at granted messages old u in
        let h = events config run.past.history in
        let all = subst ConnectionUntold ((all_sound begins goes_on config h u.within.most_window run.past.traced.accepted).0 ∙ sym run.past.traced.state) (all_untold config h) in
        first_untold x.link.link.ready x.delivery x.first (untold_at old.connection channel handle x.session x.link all x.live x.attached).ready

    few : table_count d.delivery_id t.links ≤ 1
    few = omega (arith, apart d.delivery_id, at_most_one (nat_lt d.delivery_id (2 ^ 32)))

    kept : Delivery
    kept = record x.delivery { message = [] }

    awaits : slot_standing d.delivery_id (Live l) ≡ Awaiting kept.rcv_settle_mode
    awaits =
        let left = left_there x.delivery (sym (ap (λ (y : Handed). y.settled) x.is) ∙ unsettled) in
        let has = eq-eqb x.delivery.delivery_id d.delivery_id (sym (ap (λ (y : Handed). y.delivery_id) x.is)) in
        last_awaits d.delivery_id l.link x.link.link.awaiting kept (ap (λ (ds : List Delivery). x.link.link.awaiting ++ ds) left) has untold
        (omega (arith, few, slot_within d.delivery_id t.links handle (Live l) get))

    stands : standing_in d.delivery_id t.links ≡ Awaiting kept.rcv_settle_mode
    stands = stands_in d.delivery_id kept.rcv_settle_mode t.links handle l few get awaits

    small : d.delivery_id < 2 ^ 32
    small = by (nat_lt d.delivery_id (2 ^ 32)) refl
      where
        by : (b : Bool) → nat_lt d.delivery_id (2 ^ 32) ≡ b → d.delivery_id < 2 ^ 32
        by true less = ltb-true d.delivery_id (2 ^ 32) less
        by false more =
            let least : link.one_if (nat_lt d.delivery_id (2 ^ 32)) ≡ 0 = ap link.one_if more in
            absurd (omega (arith, least, apart d.delivery_id, slot_within d.delivery_id t.links handle (Live l) get, some_stands d.delivery_id (Live l) kept.rcv_settle_mode awaits))

-- What an endpoint that was used accepts. -----------------------------------------------------------------------------------

module _ (law : RunsAreWhole) (config : Configured) (place at granted messages : ℕ) (s : EndpointState) (u : IsUsed config place at granted messages s) where
  abbrev history : List ConnectionEvent
  history = events config (whole_run law config place at granted messages s u).past.history

  is_state : s.connection ≡ state_of config history
  is_state = (whole_run law config place at granted messages s u).past.traced.state

  sound : Sound config history
  sound = (whole_run law config place at granted messages s u).past.traced.sound

  wide : (channel : ℕ) (t : SessionState) → slot_at s.connection channel ≡ Live t → is_open s.connection.phase ≡ true
  wide channel t here =
      ap (λ (c : ConnectionState). is_open c.phase) is_state ∙ wide_here config history sound channel t (ap (λ (c : ConnectionState). slot_at c channel) (sym is_state) ∙ here)

  -- a take behind Ready
  pub take_follows : (new : EndpointState) (piece : List ℕ) (used channel handle : ℕ) → IsFed s new piece used (outcome.Event (told.Ready channel handle)) → IsAccepted new channel (Take handle)
  take_follows new piece used channel handle fed = λ unsent room.
      let limit = (whole_run law config place at granted messages s u).past.traced.limit in
      take_accepted s new piece used channel handle (omega (arith, limit, u.within.some_frame)) fed unsent

  -- credit within what is allowed
  pub grant_follows : (channel handle n : ℕ) (l : LiveLink) → link_at s.connection channel handle ≡ Live l → l.link.credit + open_count l.link + n ≤ (bounds_for config l.name).allowed →
      IsAccepted s channel (Grant handle n)
  grant_follows channel handle n l here few = λ unsent room. by (slot_at s.connection channel) refl here unsent (room refl)
    where
      by : (x : Slot SessionState) → slot_at s.connection channel ≡ x → link_in handle x ≡ Live l → (unsent : List ℕ) → has_room unsent ≡ true →
          call_fault s.connection unsent channel (Grant handle n) ≡ None
      by Free is there unsent room = absurd (grind (arith, there))
      by (Live t) is there unsent room =
          let bounds = bounds_here config history sound channel t (ap (λ (c : ConnectionState). slot_at c channel) (sym is_state) ∙ is) handle l there in
          let allowed : l.link.terms.bounds.allowed ≡ (bounds_for config l.name).allowed = ap (λ (b : LinkBounds). b.allowed) bounds in
          grant_accepted s.connection unsent channel handle n l (wide channel t is) here room (omega (arith, few, allowed))
      by Waits is there unsent room = absurd (grind (arith, there))

  -- and places
  pub widen_follows : (channel n : ℕ) (t : SessionState) → slot_at s.connection channel ≡ Live t → t.window + n < 2 ^ 31 → IsAccepted s channel (Widen n)
  widen_follows channel n t here few = λ unsent room. widen_accepted s.connection unsent channel n t (wide channel t here) here (room refl) few
