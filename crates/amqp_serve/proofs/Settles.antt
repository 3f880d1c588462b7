-- A take and a settle leave what other links lack.
use Rattle.std.proofs.Common.{arith, ◌≡◌, ℕ, zero, suc, ◌+◌, ◌<◌, ◌≤◌, ◌^◌, Bool, true, false, List, [], ◌∷◌, ◌++◌, Option, Some, None, Result, Ok, Err, refl, sym, ap, subst, ◌∙◌}
use Rattle.std.specs.Prelude.{if◌then◌else◌, is_none, nat_eq, sum_by, slice_get, unwrap_or, IfSome}
use Rattle.std.specs.List.{count_by}
use Rattle.std.proofs.lemmas.Bool.{eq-eqb, eqb-true, true≢false}
use Rattle.std.proofs.lemmas.List.Sums.{sum_by-cons}
use Rattle.amqp_link.specs.Links.{Delivery, LinkState, HandedUp as Handing, ReceiverSettled, link_after, first_ready, open_set, is_covered, named_count}
use Rattle.amqp_link.specs.declared.open_delivery.Settler.TheVariants.{Receiver}
use Rattle.amqp_link.specs.declared.settlement.Standing.{Standing}
use Rattle.amqp_link.specs.declared.settlement.Standing.TheVariants.{Absent, Untaken, Told, Awaiting}
use Rattle.amqp_link.specs.Links.{LinkEvent}
use Rattle.amqp_link.proofs.Hints.{id_covered, count_append, count_one, unnamed}
use Rattle.amqp_perform.specs.declared.outcome.Outcome.{Outcome as Fate}
use Rattle.amqp_session.specs.declared.slot.Slot.{Slot}
use Rattle.amqp_session.specs.declared.slot.Slot.TheVariants.{Free, Live, Waits as Awaits}
use Rattle.amqp_session.specs.Calls as session
use Rattle.amqp_session.specs.Calls.{Take, Settle, take_event, first_taken, standing_in, standing_fault}
use Rattle.amqp_session.specs.Laws.{IsElsewhere, named_total, slot_named}
use Rattle.amqp_session.specs.declared.fault.CallFault.{CallFault as SessionFault}
use Rattle.amqp_session.specs.declared.fault.CallFault.TheVariants.{NothingReady}
use Rattle.amqp_session.specs.Faults.{or_else, where_so}
use Rattle.amqp_session.specs.Places.{Happens, GoesOn, AllGoOn, slot_map, places_after, places_from, live_in}
use Rattle.amqp_session.specs.Sessions as one
use Rattle.amqp_session.specs.Sessions.{Attached, LiveLink, live_begins, live_after, SessionState, SessionEvent, slot_at as link_slot, happens, session_after, IsApart}
use Rattle.amqp_session.proofs.Names.{names_one}
use Rattle.amqp_session.proofs.RangeFaults.{settle_is}
use Rattle.amqp_endpoint.specs.declared.fault.CallFault.{CallFault}
use Rattle.amqp_endpoint.specs.Calls.{at_session, call_fault, dead_fault, of_option, slot_event}
use Rattle.amqp_endpoint.specs.Connections as connection
use Rattle.amqp_endpoint.specs.Connections.{ConnectionState, ConnectionEvent, connection_after, slot_at}
use Rattle.amqp_endpoint.specs.Endpoints.{accepted_by}
use Rattle.amqp_endpoint.specs.Runs.{Refused, Handed, HandedUp, handed_of, CallDone, accepted_answer, handed, link_handed}
use Rattle.amqp_endpoint.specs.Steps.{EndpointState}
use Rattle.amqp_endpoint.specs.Takings.{link_in}
use Rattle.amqp_serve.specs.declared.rules.Rule.{Rule}
use Rattle.amqp_serve.specs.declared.supplies.Look.TheVariants as look
use Rattle.amqp_serve.specs.declared.supplies.Supply.{Supply}
use Rattle.amqp_serve.specs.declared.supplies.Supply.TheVariants.{WindowOf, CreditOf}
use Rattle.amqp_serve.specs.Cuts.{supply_channel}
use Rattle.amqp_serve.specs.Serving.{credit_lack, lack}
use Rattle.amqp_serve.specs.Supplied.{IsBeside, IsOnlyAt}
use Rattle.amqp_serve.proofs.CutTops.{went, slot_went, got_at}
use Rattle.amqp_serve.proofs.Looks.{link_only}
use Rattle.amqp_serve.proofs.Supplied.{lack_same, elsewhere_at, event_only, only_same, only_on}

-- A take. ---------------------------------------------------------------------------------------------------------------------

take_elsewhere : (handle : ℕ) (x : Slot LiveLink) (k : ℕ) → (handle ≡ k → ⊥) → IsElsewhere k (happens (take_event handle x))
take_elsewhere handle Free k away = tt
take_elsewhere handle (Live l) k away = by (first_ready l.link)
  where
    by : (o : Option Delivery) → IsElsewhere k (happens (first_taken handle o))
    by None = tt
    by (Some d) = away
take_elsewhere handle Awaits k away = tt

ignored_only : (p : Rule) (s : ConnectionState) (channel handle : ℕ) → IsOnlyAt p (look.Link channel handle) s (connection_after s connection.Ignored)
ignored_only p s channel handle =
    record { config = refl; others = λ y beside. lack_same p s (connection_after s connection.Ignored) y refl (elsewhere_at s connection.Ignored (supply_channel y) tt) }

slot_take_only : (p : Rule) (s : ConnectionState) (channel handle : ℕ) (x : Slot SessionState) → IsOnlyAt p (look.Link channel handle) s (connection_after s (slot_event channel x (Take handle)))
slot_take_only p s channel handle Free = ignored_only p s channel handle
slot_take_only p s channel handle (Live u) = link_only p s channel handle (take_event handle (link_slot u handle)) (take_elsewhere handle (link_slot u handle))
slot_take_only p s channel handle Awaits = ignored_only p s channel handle

-- it changes its own link alone
pub take_only : (p : Rule) (s t : EndpointState) (channel handle : ℕ) (d : Handed) → CallDone s t channel (Take handle) (HandedUp d) → IsOnlyAt p (look.Link channel handle) s.connection t.connection
take_only p s t channel handle d done =
    subst (λ (c : ConnectionState). IsOnlyAt p (look.Link channel handle) s.connection c) (sym done.1.connection) (slot_take_only p s.connection channel handle (slot_at s.connection channel))

pub refused_only : (p : Rule) (s t : EndpointState) (channel handle : ℕ) (f : CallFault) → CallDone s t channel (Take handle) (Refused f) → IsOnlyAt p (look.Link channel handle) s.connection t.connection
refused_only p s t channel handle f done = only_same p (look.Link channel handle) s.connection t.connection done.1.connection

-- Behind it the delivery awaits what becomes of it, unless its sender settled it. ---------------------------------------------

named_last : (id : ℕ) (ds : List Delivery) (d : Delivery) → id < 2 ^ 32 → d.delivery_id ≡ id → 1 ≤ count_by (is_covered id id) (ds ++ d ∷ [])
named_last id ds d low is =
    let all = count_append (is_covered id id) ds (d ∷ []) in
    let one = count_one (is_covered id id) d [] (id_covered id d low (eq-eqb d.delivery_id id is)) in
    omega (arith, all, one)

handed_awaits : (l : LinkState) (d : Delivery) → d.delivery_id < 2 ^ 32 → d.settled ≡ false → 1 ≤ named_count d.delivery_id d.delivery_id (open_set (link_after l (Handing d)))
handed_awaits l d low unsettled =
    subst (λ (b : Bool). 1 ≤ count_by (is_covered d.delivery_id d.delivery_id) (l.awaiting ++ (if b then [] else record d { message = [] } ∷ []))) (sym unsettled)
    (named_last d.delivery_id l.awaiting (record d { message = [] }) low refl)

-- what stands at its own handle
there : (e : SessionEvent) (u : SessionState) (h : ℕ) (x : LinkEvent) → happens e ≡ GoesOn h x → link_slot (session_after u e) h ≡ slot_map (λ l. live_after l x) (link_slot u h)
there e u h x is =
    ap (λ (y : Happens Attached LinkEvent). unwrap_or (slice_get (places_after live_begins live_after u.links y) h) Free) is ∙ got_at live_begins live_after h h x u.links
    ∙ ap (λ (b : Bool). if b then slot_map (λ l. live_after l x) (link_slot u h) else link_slot u h) (eq-eqb h h refl)

taken_awaits : (handle : ℕ) (u : SessionState) (d : Handed) → HandedUp d ≡ accepted_answer (Live u) (Take handle) → session.call_fault u (Take handle) ≡ None → d.settled ≡ false → d.delivery_id < 2 ^ 32
    → 1 ≤ slot_named d.delivery_id d.delivery_id (link_slot (session_after u (take_event handle (link_slot u handle))) handle)
taken_awaits handle u d told fine unsettled low = by (link_slot u handle) refl told fine
  where
    goal : SessionEvent → Type 0
    goal e = 1 ≤ slot_named d.delivery_id d.delivery_id (link_slot (session_after u e) handle)

    by : (x : Slot LiveLink) → link_slot u handle ≡ x → HandedUp d ≡ link_handed x → session.at_link x (λ l. where_so (is_none (first_ready l)) NothingReady) ≡ None → goal (take_event handle x)
    by Free at told fine = absurd (grind (arith, fine))
    by (Live l) at told fine = ready (first_ready l.link) told fine
      where
        ready : (o : Option Delivery) → HandedUp d ≡ handed o → where_so (is_none o) NothingReady ≡ None → goal (first_taken handle o)
        ready None told fine = absurd (grind (arith, fine))
        ready (Some x) told fine =
            let same : d ≡ handed_of x = cc in
            subst (λ (y : Slot LiveLink). 1 ≤ slot_named d.delivery_id d.delivery_id y) (sym (there (one.Called handle (Handing x)) u handle (Handing x) refl ∙ ap (slot_map (λ l. live_after l (Handing x))) at))
            (subst (λ (id : ℕ). 1 ≤ named_count id id (open_set (link_after l.link (Handing x)))) (sym (ap (λ (h : Handed). h.delivery_id) same))
            (handed_awaits l.link x (subst (λ (h : Handed). h.delivery_id < 2 ^ 32) same low) (sym (ap (λ (h : Handed). h.settled) same) ∙ unsettled)))
    by Awaits at told fine = absurd (grind (arith, fine))

-- a call that is accepted is at its session too
at_slot : (s : EndpointState) (channel : ℕ) (call : session.Call) → call_fault s.connection s.unsent channel call ≡ None → at_session (slot_at s.connection channel) call ≡ None
at_slot s channel call fine = later (dead_fault s.connection) (at_session (slot_at s.connection channel) call) _ fine
  where
    later : (a b c : Option CallFault) → or_else a (or_else b c) ≡ None → b ≡ None
    later None None c is = refl
    later None (Some f) c is = is
    later (Some g) b c is = absurd (grind (arith, is))

of_none : (o : Option SessionFault) → of_option o ≡ None → o ≡ None
of_none None is = refl
of_none (Some f) is = absurd (grind (arith, is))

pub take_awaits : (s t : EndpointState) (channel handle : ℕ) (d : Handed) → CallDone s t channel (Take handle) (HandedUp d) → d.settled ≡ false → d.delivery_id < 2 ^ 32
    → 1 ≤ slot_named d.delivery_id d.delivery_id (link_in handle (slot_at t.connection channel))
take_awaits s t channel handle d done unsettled low =
    subst (λ (c : ConnectionState). 1 ≤ slot_named d.delivery_id d.delivery_id (link_in handle (slot_at c channel))) (sym done.1.connection)
    (by (slot_at s.connection channel) refl done.2 (at_slot s channel (Take handle) done.0))
  where
    by : (x : Slot SessionState) → slot_at s.connection channel ≡ x → HandedUp d ≡ accepted_answer x (Take handle) → at_session x (Take handle) ≡ None
        → 1 ≤ slot_named d.delivery_id d.delivery_id (link_in handle (slot_at (connection_after s.connection (slot_event channel x (Take handle))) channel))
    by Free at told fine = absurd (grind (arith, fine))
    by (Live u) at told fine =
        subst (λ (y : Slot SessionState). 1 ≤ slot_named d.delivery_id d.delivery_id (link_in handle y))
        (sym (slot_went s.connection channel channel (take_event handle (link_slot u handle))
        ∙ ap (λ (b : Bool). went b (take_event handle (link_slot u handle)) (slot_at s.connection channel)) (eq-eqb channel channel refl)
        ∙ ap (went true (take_event handle (link_slot u handle))) at))
        (taken_awaits handle u d told (of_none (session.call_fault u (Take handle)) fine) unsettled low)
    by Awaits at told fine = absurd (grind (arith, fine))

-- A settle. -------------------------------------------------------------------------------------------------------------------

-- two places of a table are at most all of it
module _ (f : Slot LiveLink → ℕ) (none : f Free ≡ 0) where
  abbrev at : List (Slot LiveLink) → ℕ → Slot LiveLink
  at xs i = unwrap_or (slice_get xs i) Free

  one_place : (xs : List (Slot LiveLink)) (i : ℕ) → f (at xs i) ≤ sum_by f xs
  one_place [] i = let first : f (at [] i) ≡ 0 = none in omega (arith, first)
  one_place (x ∷ xs) zero = let all = sum_by-cons f x xs in omega (arith, all)
  one_place (x ∷ xs) (suc i) = let all = sum_by-cons f x xs in let rest = one_place xs i in omega (arith, all, rest)

  two_places : (xs : List (Slot LiveLink)) (i j : ℕ) → (i ≡ j → ⊥) → f (at xs i) + f (at xs j) ≤ sum_by f xs
  two_places [] i j away = let first : f (at [] i) ≡ 0 = none in let second : f (at [] j) ≡ 0 = none in omega (arith, first, second)
  two_places (x ∷ xs) zero zero away = absurd (away refl)
  two_places (x ∷ xs) zero (suc j) away = let all = sum_by-cons f x xs in let rest = one_place xs j in omega (arith, all, rest)
  two_places (x ∷ xs) (suc i) zero away = let all = sum_by-cons f x xs in let rest = one_place xs i in omega (arith, all, rest)
  two_places (x ∷ xs) (suc i) (suc j) away =
      let all = sum_by-cons f x xs in let rest = two_places xs i j (λ same. away (ap suc same)) in omega (arith, all, rest)

-- a link of which nothing is named lacks what it lacked
unnamed_lacks : (p : Rule) (id : ℕ) (x : Slot LiveLink) → slot_named id id x ≡ 0 → credit_lack p (slot_map (λ l. live_after l (ReceiverSettled id id)) x) ≡ credit_lack p x
unnamed_lacks p id Free none = refl
unnamed_lacks p id (Live l) none =
    ap (λ (ds : List Delivery). credit_lack p (Live (record l { link = record l.link { awaiting = ds } }))) (unnamed (record { settler = Receiver; ids = record { first = id; last = id } }) l.link.awaiting none).0
unnamed_lacks p id Awaits none = refl

-- what stands at a handle behind a settle
settled_slot : (u : SessionState) (id k : ℕ) → link_slot (session_after u (one.Settled id id)) k ≡ slot_map (λ l. live_after l (ReceiverSettled id id)) (link_slot u k)
settled_slot u id k = got_all (ReceiverSettled id id) k u.links
  where
    got_all : (x : LinkEvent) (k : ℕ) (xs : List (Slot LiveLink)) → unwrap_or (slice_get (places_after live_begins live_after xs (AllGoOn x)) k) Free ≡ slot_map (λ l. live_after l x) (unwrap_or (slice_get xs k) Free)
    got_all x k xs = from 0 k xs
      where
        from : (j k : ℕ) (xs : List (Slot LiveLink)) → unwrap_or (slice_get (places_from live_begins live_after j (AllGoOn x) xs) k) Free ≡ slot_map (λ l. live_after l x) (unwrap_or (slice_get xs k) Free)
        from j k [] = refl
        from j zero (y ∷ ys) = refl
        from j (suc k) (y ∷ ys) = from (suc j) k ys

-- where no id is of two deliveries it names one
settles_one : (u : SessionState) (id : ℕ) (o : Fate) → IsApart u → id < 2 ^ 32 → session.call_fault u (Settle id o) ≡ None → named_total id id u ≤ 1
settles_one u id o apart low fine = by (standing_in id u.links) refl (sym (settle_is u id apart low) ∙ fine)
  where
    by : (x : Standing) → standing_in id u.links ≡ x → standing_fault x ≡ None → named_total id id u ≤ 1
    by Absent is fine = absurd (grind (arith, fine))
    by Untaken is fine = absurd (grind (arith, fine))
    by Told is fine = absurd (grind (arith, fine))
    by (Awaiting mode) is fine = let one = names_one u id mode apart low is in omega (arith, one)

-- It leaves what all other links lack, where this link has its delivery.
pub settle_only : (p : Rule) (s t : EndpointState) (channel handle id : ℕ) (o : Fate) (r : Result (Unit {0}) CallFault) → IfSome (live_in (slot_at s.connection channel)) IsApart → id < 2 ^ 32
    → CallDone s t channel (Settle id o) (accepted_by r) → 1 ≤ slot_named id id (link_in handle (slot_at s.connection channel)) → IsOnlyAt p (look.Link channel handle) s.connection t.connection
settle_only p s t channel handle id o (Err f) apart low done own = only_same p (look.Link channel handle) s.connection t.connection done.1.connection
settle_only p s t channel handle id o (Ok x) apart low done own =
    subst (λ (c : ConnectionState). IsOnlyAt p (look.Link channel handle) s.connection c) (sym done.1.connection)
    (by (slot_at s.connection channel) refl own apart (at_slot s channel (Settle id o) done.0))
  where
    by : (x : Slot SessionState) → slot_at s.connection channel ≡ x → 1 ≤ slot_named id id (link_in handle x) → IfSome (live_in x) IsApart → at_session x (Settle id o) ≡ None
        → IsOnlyAt p (look.Link channel handle) s.connection (connection_after s.connection (slot_event channel x (Settle id o)))
    by Free at own apart fine = absurd (omega (arith, own))
    by (Live u) at own apart fine = record { config = refl; others = others }
      where
        alone : named_total id id u ≤ 1
        alone = settles_one u id o apart low (of_none (session.call_fault u (Settle id o)) fine)

        e : ConnectionEvent
        e = connection.InSession channel (one.Settled id id)

        far : (x : Supply) → (supply_channel x ≡ channel → ⊥) → lack p (connection_after s.connection e) x ≡ lack p s.connection x
        far x other = (event_only p s.connection channel e (λ k gone. gone)).others x other

        beside : (h : ℕ) → (handle ≡ h → ⊥) → credit_lack p (link_slot (session_after u (one.Settled id id)) h) ≡ credit_lack p (link_slot u h)
        beside h away =
            let both = two_places (slot_named id id) refl u.links handle h away in
            let none : slot_named id id (link_slot u h) ≡ 0 = omega (arith, both, own, alone) in
            ap (credit_lack p) (settled_slot u id h) ∙ unnamed_lacks p id (link_slot u h) none

        near : (c h : ℕ) → (CreditOf c h ≡ CreditOf channel handle → ⊥) → (b : Bool) → nat_eq c channel ≡ b → lack p (connection_after s.connection e) (CreditOf c h) ≡ lack p s.connection (CreditOf c h)
        near c h other false is = far (CreditOf c h) (λ same. true≢false (sym (eq-eqb c channel same) ∙ is))
        near c h other true is =
            let same = eqb-true c channel is in
            let here : slot_at s.connection c ≡ Live u = ap (slot_at s.connection) same ∙ at in
            ap (λ (y : Slot SessionState). credit_lack p (link_in h y))
            (slot_went s.connection c channel (one.Settled id id) ∙ ap (λ (b : Bool). went b (one.Settled id id) (slot_at s.connection c)) (eq-eqb channel c (sym same)) ∙ ap (went true (one.Settled id id)) here)
            ∙ beside h (λ there. other (ap (λ (i : ℕ). CreditOf i h) same ∙ ap (λ (i : ℕ). CreditOf channel i) (sym there)))
            ∙ ap (λ (y : Slot SessionState). credit_lack p (link_in h y)) (sym here)

        others : (x : Supply) → IsBeside (look.Link channel handle) x → lack p (connection_after s.connection e) x ≡ lack p s.connection x
        others (WindowOf c) away = far (WindowOf c) (λ same. away.0 (ap (λ (i : ℕ). WindowOf i) same))
        others (CreditOf c h) away = near c h away.1 (nat_eq c channel) refl
    by Awaits at own apart fine = absurd (omega (arith, own))

-- Both. -----------------------------------------------------------------------------------------------------------------------

-- What a message that was taken and settled leaves, with writes between: all other links.
pub message_only : (p : Rule) (s t u v : EndpointState) (channel handle : ℕ) (o : Fate) (d : Handed) (r : Result (Unit {0}) CallFault) → CallDone s t channel (Take handle) (HandedUp d) → u.connection ≡ t.connection
    → IfSome (live_in (slot_at u.connection channel)) IsApart → CallDone u v channel (Settle d.delivery_id o) (accepted_by r) → d.settled ≡ false → d.delivery_id < 2 ^ 32
    → IsOnlyAt p (look.Link channel handle) s.connection v.connection
message_only p s t u v channel handle o d r took wrote apart settled open_yet low =
    let own : 1 ≤ slot_named d.delivery_id d.delivery_id (link_in handle (slot_at u.connection channel)) =
    subst (λ (c : ConnectionState). 1 ≤ slot_named d.delivery_id d.delivery_id (link_in handle (slot_at c channel))) (sym wrote) (take_awaits s t channel handle d took open_yet low) in
    only_on (take_only p s t channel handle d took)
    (only_on (only_same p (look.Link channel handle) t.connection u.connection wrote) (settle_only p u v channel handle d.delivery_id o r apart low settled own))
