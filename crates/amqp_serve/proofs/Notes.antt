-- How long the record of a step is at most: its message was held before it was taken.
use Rattle.std.proofs.Common.{◌≡◌, ℕ, ◌+◌, ◌≤◌, arith, Bool, true, false, List, [], ◌∷◌, ◌++◌, length, length-append, Option, Some, None, refl, ap, zero, suc}
use Rattle.std.specs.Prelude.{slice_get, unwrap_or, option_to_list, sum_by}
use Rattle.std.specs.List.{flat_map}
use Rattle.std.proofs.lemmas.List.Sums.{sum_by-cons, sum_by-append}
use Rattle.amqp_link.specs.Links.{Delivery, LinkState, delivery_bytes, first_ready, link_bytes}
use Rattle.amqp_session.specs.Calls as session
use Rattle.amqp_session.specs.declared.slot.Slot.{Slot}
use Rattle.amqp_session.specs.declared.slot.Slot.TheVariants.{Free, Live, Waits}
use Rattle.amqp_session.specs.Sessions.{LiveLink, SessionState, slot_bytes, session_bytes}
use Rattle.amqp_session.specs.Sessions as of_session
use Rattle.amqp_endpoint.specs.declared.event.Event.{Event}
use Rattle.amqp_endpoint.specs.declared.event.Event.TheVariants as event
use Rattle.amqp_endpoint.specs.declared.event.Outcome.{Outcome}
use Rattle.amqp_endpoint.specs.declared.event.Outcome.TheVariants as outcome
use Rattle.amqp_endpoint.specs.Configs.{Configured}
use Rattle.amqp_endpoint.specs.Connections.{ConnectionState, slot_at, channel_bytes, connection_bytes}
use Rattle.amqp_endpoint.specs.Held.{held}
use Rattle.amqp_endpoint.specs.Runs.{Call, Feed, InSession, Output, Finish, Answer, Fed, Accepted, Dropped, Named, Handed, HandedUp, Refused, MovedOut, Holds, Ended, handed, link_handed, accepted_answer, CallDone, Does}
use Rattle.amqp_endpoint.specs.Steps.{EndpointState}
use Rattle.amqp_endpoint.specs.Traces.{IsInRange}
use Rattle.amqp_endpoint.specs.Uses.{held_by_any}
use Rattle.amqp_serve.specs.declared.rules.Rule.{Rule}
use Rattle.amqp_serve.specs.declared.supplies.Supply.{Supply}
use Rattle.amqp_serve.specs.declared.supplies.Supply.TheVariants.{WindowOf, CreditOf}
use Rattle.amqp_serve.specs.Deeds.{outcomes_by}
use Rattle.amqp_serve.specs.Kept.{IsInUse}
use Rattle.amqp_serve.specs.Rooms.{record_room}
use Rattle.amqp_serve.specs.Serving.{Stand, ToppingUp, Receiving, Settling, Starved, Over, stand_told, stand_handed, stand_taken, lack, top_up_by, Step, Serves, Rests, MovesOut, Feeds, Takes, Settles, TopsUp, Passes, Finishes, record_head, recorded_by, recorded}
use Rattle.amqp_serve.proofs.Servings.{top_up_ranges}

-- A message is held. --------------------------------------------------------------------------------------------------

-- one of some is at most their sum
one_of : {X : Type 0} (f : X → ℕ) (xs : List X) (i : ℕ) (x : X) → slice_get xs i ≡ Some x → f x ≤ sum_by f xs
one_of f [] i x is = absurd (grind (arith, is))
one_of f (y ∷ xs) zero x is =
    let same : x ≡ y = grind (arith, is) in
    let e = ap f same in
    omega (arith, e, sum_by-cons f y xs)
one_of f (y ∷ xs) (suc i) x is =
    let l = one_of f xs i x is in
    omega (arith, l, sum_by-cons f y xs)

abbrev message_of : Answer → List ℕ
message_of (HandedUp d) = d.message
message_of a = []

module _ (d : Handed) where
  -- in its link
  in_link : (l : LinkState) → HandedUp d ≡ handed (first_ready l) → length d.message ≤ link_bytes l
  in_link l is = by (first_ready l) refl is
    where
      by : (o : Option Delivery) → first_ready l ≡ o → HandedUp d ≡ handed o → length d.message ≤ link_bytes l
      by None e is = absurd (grind (arith, is))
      by (Some x) e is =
          let same : length d.message ≡ length x.message = ap (λ (a : Answer). length (message_of a)) is in
          let one : 64 + length x.delivery_tag + length x.message ≤ sum_by delivery_bytes l.ready = one_of delivery_bytes l.ready 0 x e in
          let front = l.awaiting ++ l.ready in
          let whole : link_bytes l ≡ sum_by delivery_bytes front + sum_by delivery_bytes (option_to_list l.unfinished) = sum_by-append delivery_bytes front (option_to_list l.unfinished) in
          omega (arith, same, one, whole, sum_by-append delivery_bytes l.awaiting l.ready)

  -- in its session
  in_session : (s : SessionState) (handle : ℕ) → HandedUp d ≡ link_handed (of_session.slot_at s handle) → length d.message ≤ session_bytes s
  in_session s handle is = by (slice_get s.links handle) refl is
    where
      by : (o : Option (Slot LiveLink)) → slice_get s.links handle ≡ o → HandedUp d ≡ link_handed (unwrap_or o Free) → length d.message ≤ session_bytes s
      by None e is = absurd (grind (arith, is))
      by (Some Free) e is = absurd (grind (arith, is))
      by (Some Waits) e is = absurd (grind (arith, is))
      by (Some (Live l)) e is =
          let held = in_link l.link is in
          let one = one_of slot_bytes s.links handle (Live l) e in
          omega (arith, held, one)

  -- and in its connection
  in_connection : (s : ConnectionState) (channel handle : ℕ) → HandedUp d ≡ accepted_answer (slot_at s channel) (session.Take handle) → length d.message ≤ connection_bytes s
  in_connection s channel handle is = by (slice_get s.sessions channel) refl is
    where
      by : (o : Option (Slot SessionState)) → slice_get s.sessions channel ≡ o → HandedUp d ≡ accepted_answer (unwrap_or o Free) (session.Take handle) → length d.message ≤ connection_bytes s
      by None e is = absurd (grind (arith, is))
      by (Some Free) e is = absurd (grind (arith, is))
      by (Some Waits) e is = absurd (grind (arith, is))
      by (Some (Live x)) e is =
          let held = in_session x handle is in
          let one = one_of channel_bytes s.sessions channel (Live x) e in
          omega (arith, held, one)

head_long : (channel handle : ℕ) (d : Handed) → length (record_head channel handle d) ≡ 18
unfolding record_head
head_long channel handle d = refl

-- Any steps. ----------------------------------------------------------------------------------------------------------

module _ (config : Configured) (calls_used : (s t : EndpointState) (c : Call) (a : Answer) → IsInUse config s → IsInRange c → Does s t c a → IsInUse config t)
    (bounded : (s : EndpointState) → IsInUse config s → held s ≤ held_by_any config) where
  -- what a take records
  take_noted : (s t : EndpointState) (channel handle : ℕ) (answer : Answer) → IsInUse config s → CallDone s t channel (session.Take handle) answer →
      length (recorded_by (InSession channel (session.Take handle)) answer) ≤ record_room config
  take_noted s t channel handle (HandedUp d) u done =
      let message = in_connection d s.connection channel handle done.2 in
      let most = bounded s u in
      omega (arith, message, most, head_long channel handle d, length-append (record_head channel handle d) d.message)
  take_noted s t channel handle (Fed used told) u done = omega arith
  take_noted s t channel handle Accepted u done = omega arith
  take_noted s t channel handle (Dropped n) u done = omega arith
  take_noted s t channel handle (Named n) u done = omega arith
  take_noted s t channel handle (Refused f) u done = omega arith
  take_noted s t channel handle (MovedOut bytes) u done = omega arith
  take_noted s t channel handle (Holds n) u done = omega arith
  take_noted s t channel handle (Ended end) u done = omega arith

  -- how much may be recorded from a stand on, until the next piece is fed
  abbrev notes : Stand → ℕ
  notes (Receiving channel handle) = record_room config
  notes (ToppingUp supplies) = 0
  notes (Settling channel id) = 0
  notes Starved = 0
  notes Over = 0

  abbrev tells : List Step → List Outcome
  tells steps = flat_map (λ x. outcomes_by x.answer) steps

  event_notes : (k : Configured) (e : Event) → notes (stand_told k (outcome.Event e)) ≤ record_room config
  event_notes k (event.Ready channel handle) = omega arith
  event_notes k e = omega arith

  told_notes : (k : Configured) (told : Outcome) → notes (stand_told k told) ≤ record_room config
  told_notes k (outcome.Event e) = event_notes k e
  told_notes k outcome.NoMemory = omega arith
  told_notes k told = omega arith

  handed_notes : (k : Configured) (channel : ℕ) (d : Handed) → notes (stand_handed k channel d) ≡ 0
  handed_notes k channel d = by d.settled refl
    where
      by : (b : Bool) → d.settled ≡ b → notes (stand_handed k channel d) ≡ 0
      by true is = rw is refl
      by false is = rw is refl

  taken_notes : (k : Configured) (channel : ℕ) (answer : Answer) → notes (stand_taken k channel answer) ≡ 0
  taken_notes k channel (HandedUp d) = handed_notes k channel d
  taken_notes k channel answer = refl

  -- room for a record after each feed
  abbrev rooms : List Outcome → ℕ
  rooms [] = 0
  rooms (o ∷ os) = record_room config + rooms os

  rooms_on : (os ps : List Outcome) → rooms (os ++ ps) ≡ rooms os + rooms ps
  rooms_on [] ps = omega arith
  rooms_on (o ∷ os) ps = let e = rooms_on os ps in omega (arith, e)

  top_silent : (supply : Supply) (n : ℕ) (answer : Answer) → recorded_by (top_up_by supply n) answer ≡ []
  top_silent (WindowOf channel) n answer = refl
  top_silent (CreditOf channel handle) n answer = refl

  -- so long is what these steps recorded
  within : {p : Rule} {a b : Stand} {s t : EndpointState} {xs : List Step} → Serves p a s xs b t → IsInUse config s → length (recorded xs) ≤ notes a + rooms (tells xs)
  within Rests u = omega arith
  within (MovesOut {p} {a} {b} {s} {last} {steps} next n bytes does x) u = within x (calls_used s next (Output n) (MovedOut bytes) u tt does)
  within (Feeds {p} {b} {s} {last} {steps} next piece used told none range does x) u =
      let rest = within x (calls_used s next (Feed piece) (Fed used told) u range does) in
      omega (arith, rest, told_notes next.connection.config told)
  within (Takes {p} {b} {s} {last} {steps} next channel handle answer does x) u =
      let rest = within x (calls_used s next (InSession channel (session.Take handle)) answer u tt does) in
      let one = take_noted s next channel handle answer u does in
      let none = taken_notes next.connection.config channel answer in
      let bytes = recorded_by (InSession channel (session.Take handle)) answer in
      let more = rooms_on (outcomes_by answer) (tells steps) in
      omega (arith, rest, one, none, more, length-append bytes (recorded steps))
  within (Settles {p} {b} {s} {last} {steps} next channel id answer none small does x) u =
      let rest = within x (calls_used s next (InSession channel (session.Settle id p.outcome)) answer u small does) in
      let more = rooms_on (outcomes_by answer) (tells steps) in
      omega (arith, rest, more)
  within (TopsUp {p} {b} {s} {last} {steps} next supply supplies answer none lacks does x) u =
      let n = lack p s.connection supply in
      let rest = within x (calls_used s next (top_up_by supply n) answer u (top_up_ranges supply n) does) in
      let silent = ap (λ (l : List ℕ). length l) (top_silent supply n answer) in
      let more = rooms_on (outcomes_by answer) (tells steps) in
      omega (arith, rest, silent, more, length-append (recorded_by (top_up_by supply n) answer) (recorded steps))
  within (Passes supply supplies lacks x) u = within x u
  within (Finishes {p} {b} {s} {last} {steps} next end none does x) u = within x (calls_used s next Finish (Ended end) u tt does)

  -- One step, which told of one feed.
  pub step_noted : {r : Rule} {s t : EndpointState} {xs : List Step} (told : Outcome) → Serves r (ToppingUp []) s xs (ToppingUp []) t → IsInUse config s → told ∷ [] ≡ tells xs → length (recorded xs) ≤ record_room config
  step_noted {r} {s} {t} {xs} told x u one =
      let all = within x u in
      let told_one = ap rooms one in
      omega (arith, all, told_one)
