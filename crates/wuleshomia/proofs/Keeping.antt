-- What bytes stand in the room of an endpoint's buffer changes no call, and so no run.
use Rattle.std.proofs.Common.{◌≡◌, ℕ, ◌+◌, List, [], ◌∷◌, ◌++◌, take, drop, None, refl, sym, ap, ◌∙◌, subst}
use Rattle.std.specs.Prelude.{length, if◌then◌else◌}
use Rattle.amqp_reason.specs.Reasons.{Reason}
use Rattle.amqp_frame.specs.Splits.{SplitterState, IsUnchanged}
use Rattle.amqp_session.specs.Calls as session
use Rattle.amqp_endpoint.specs.declared.event.End.{End}
use Rattle.amqp_endpoint.specs.declared.event.End.TheVariants as ended
use Rattle.amqp_endpoint.specs.declared.event.Outcome.{Outcome}
use Rattle.amqp_endpoint.specs.Calls.{call_fault, call_event, call_spoken, open_call_fault, close_with_fault, close_call_spoken, close_with_spoken, heartbeat}
use Rattle.amqp_endpoint.specs.Connections.{ConnectionState, ConnectionEvent, CloseAsked, Finished, connection_after, connection_bytes, connection_ready, slot_at}
use Rattle.amqp_endpoint.specs.Replies.{joined}
use Rattle.amqp_endpoint.specs.Runs.{Call, Feed, InSession, Close, CloseWith, Heartbeat, Output, Held, Finish, Answer, Fed, Accepted, Dropped, Named, HandedUp, Refused, MovedOut, Holds, Ended}
use Rattle.amqp_endpoint.specs.Runs.{IsWritten, IsBeat, IsMoved, IsFinished, CallDone, CloseDone, CloseWithDone, BeatDone, Does, Run, accepted_answer, end_between, end_of}
use Rattle.amqp_endpoint.specs.Steps.{EndpointState, IsKept, IsFed}
use Rattle.wuleshomia.specs.Programs.{IsRunTo}

pub kept_same : (s : EndpointState) → IsKept s s
kept_same s = record { input = record { limit = refl; stage = refl; filled = refl }; unsent = refl; connection = refl }

unchanged_on : {a b c : SplitterState} → IsUnchanged a b → IsUnchanged b c → IsUnchanged a c
unchanged_on x y = record { limit = y.limit ∙ x.limit; stage = y.stage ∙ x.stage; filled = y.filled ∙ x.filled }

pub kept_on : {a b c : EndpointState} → IsKept a b → IsKept b c → IsKept a c
kept_on x y = record { input = unchanged_on x.input y.input; unsent = y.unsent ∙ x.unsent; connection = y.connection ∙ x.connection }

-- how a connection ended, by what is looked at
abbrev ends : ConnectionState → List ℕ → End
ends c filled = if c.failed then ended.Failed else (if c.closed then ended.Closed else end_between (length filled))

-- each call of an endpoint that is kept as another is that call of the other
module _ (s t u : EndpointState) (k : IsKept s t) where
  written : (e : ConnectionState → ConnectionEvent) (bytes : ConnectionState → List ℕ) → IsWritten t u (e t.connection) (bytes t.connection) → IsWritten s u (e s.connection) (bytes s.connection)
  written e bytes x = record {
    input = unchanged_on k.input x.input;
    unsent = x.unsent ∙ ap (λ (l : List ℕ). l ++ bytes t.connection) k.unsent ∙ ap (λ (c : ConnectionState). s.unsent ++ bytes c) k.connection;
    connection = x.connection ∙ ap (λ (c : ConnectionState). connection_after c (e c)) k.connection;
  }

  same_fault : {X : Type 0} (f : ConnectionState → List ℕ → X) {r : X} → f t.connection t.unsent ≡ r → f s.connection s.unsent ≡ r
  same_fault f x = ap (λ (l : List ℕ). f s.connection l) (sym k.unsent) ∙ ap (λ (c : ConnectionState). f c t.unsent) (sym k.connection) ∙ x

  module _ (channel : ℕ) (c : session.Call) where
    done : (a : Answer) → (call_fault t.connection t.unsent channel c ≡ None) × IsWritten t u (call_event t.connection channel c) (joined (call_spoken t.connection channel c)) × (a ≡ accepted_answer (slot_at t.connection channel) c) →
        (call_fault s.connection s.unsent channel c ≡ None) × IsWritten s u (call_event s.connection channel c) (joined (call_spoken s.connection channel c)) × (a ≡ accepted_answer (slot_at s.connection channel) c)
    done a x = (
      same_fault (λ (y : ConnectionState) (l : List ℕ). call_fault y l channel c) x.0,
      written (λ (y : ConnectionState). call_event y channel c) (λ (y : ConnectionState). joined (call_spoken y channel c)) x.1,
      x.2 ∙ ap (λ (y : ConnectionState). accepted_answer (slot_at y channel) c) k.connection,
    )

    in_session : (a : Answer) → CallDone t u channel c a → CallDone s u channel c a
    in_session (Refused f) x = (same_fault (λ (y : ConnectionState) (l : List ℕ). call_fault y l channel c) x.0, kept_on k x.1)
    in_session (Fed used told) x = done (Fed used told) x
    in_session Accepted x = done Accepted x
    in_session (Dropped n) x = done (Dropped n) x
    in_session (Named n) x = done (Named n) x
    in_session (HandedUp d) x = done (HandedUp d) x
    in_session (MovedOut bytes) x = done (MovedOut bytes) x
    in_session (Holds n) x = done (Holds n) x
    in_session (Ended end) x = done (Ended end) x

  closed : (a : Answer) → (open_call_fault t.connection t.unsent ≡ None) × IsWritten t u CloseAsked (joined close_call_spoken) × (a ≡ Dropped (connection_ready t.connection)) →
      (open_call_fault s.connection s.unsent ≡ None) × IsWritten s u CloseAsked (joined close_call_spoken) × (a ≡ Dropped (connection_ready s.connection))
  closed a x = (same_fault open_call_fault x.0, written (λ _. CloseAsked) (λ _. joined close_call_spoken) x.1, x.2 ∙ ap (λ (c : ConnectionState). Dropped (connection_ready c)) k.connection)

  closes : (a : Answer) → CloseDone t u a → CloseDone s u a
  closes (Refused f) x = (same_fault open_call_fault x.0, kept_on k x.1)
  closes (Fed used told) x = closed (Fed used told) x
  closes Accepted x = closed Accepted x
  closes (Dropped n) x = closed (Dropped n) x
  closes (Named n) x = closed (Named n) x
  closes (HandedUp d) x = closed (HandedUp d) x
  closes (MovedOut bytes) x = closed (MovedOut bytes) x
  closes (Holds n) x = closed (Holds n) x
  closes (Ended end) x = closed (Ended end) x

  module _ (r : Reason) where
    closed_with : (a : Answer) → (close_with_fault t.connection t.unsent r ≡ None) × IsWritten t u CloseAsked (joined (close_with_spoken r)) × (a ≡ Dropped (connection_ready t.connection)) →
        (close_with_fault s.connection s.unsent r ≡ None) × IsWritten s u CloseAsked (joined (close_with_spoken r)) × (a ≡ Dropped (connection_ready s.connection))
    closed_with a x = (
      same_fault (λ (y : ConnectionState) (l : List ℕ). close_with_fault y l r) x.0,
      written (λ _. CloseAsked) (λ _. joined (close_with_spoken r)) x.1,
      x.2 ∙ ap (λ (c : ConnectionState). Dropped (connection_ready c)) k.connection,
    )

    closes_with : (a : Answer) → CloseWithDone t u r a → CloseWithDone s u r a
    closes_with (Refused f) x = (same_fault (λ (y : ConnectionState) (l : List ℕ). close_with_fault y l r) x.0, kept_on k x.1)
    closes_with (Fed used told) x = closed_with (Fed used told) x
    closes_with Accepted x = closed_with Accepted x
    closes_with (Dropped n) x = closed_with (Dropped n) x
    closes_with (Named n) x = closed_with (Named n) x
    closes_with (HandedUp d) x = closed_with (HandedUp d) x
    closes_with (MovedOut bytes) x = closed_with (MovedOut bytes) x
    closes_with (Holds n) x = closed_with (Holds n) x
    closes_with (Ended end) x = closed_with (Ended end) x

  beaten : (a : Answer) → (open_call_fault t.connection t.unsent ≡ None) × IsBeat t u × (a ≡ Accepted) → (open_call_fault s.connection s.unsent ≡ None) × IsBeat s u × (a ≡ Accepted)
  beaten a x = (
    same_fault open_call_fault x.0,
    record { input = unchanged_on k.input x.1.input; unsent = x.1.unsent ∙ ap (λ (l : List ℕ). l ++ heartbeat) k.unsent; connection = x.1.connection ∙ k.connection },
    x.2,
  )

  beats : (a : Answer) → BeatDone t u a → BeatDone s u a
  beats (Refused f) x = (same_fault open_call_fault x.0, kept_on k x.1)
  beats (Fed used told) x = beaten (Fed used told) x
  beats Accepted x = beaten Accepted x
  beats (Dropped n) x = beaten (Dropped n) x
  beats (Named n) x = beaten (Named n) x
  beats (HandedUp d) x = beaten (HandedUp d) x
  beats (MovedOut bytes) x = beaten (MovedOut bytes) x
  beats (Holds n) x = beaten (Holds n) x
  beats (Ended end) x = beaten (Ended end) x

  moves : (room : ℕ) (bytes : List ℕ) → IsMoved t u room bytes → IsMoved s u room bytes
  moves room bytes x = record {
    input = unchanged_on k.input x.input;
    moved = x.moved ∙ ap (λ (l : List ℕ). take room l) k.unsent;
    unsent = x.unsent ∙ ap (λ (l : List ℕ). drop room l) k.unsent;
    connection = x.connection ∙ k.connection;
  }

  finishes : (end : End) → IsFinished t u × (end ≡ end_of t) → IsFinished s u × (end ≡ end_of s)
  finishes end x = (
    record { limit = x.0.limit ∙ k.input.limit; filled = x.0.filled; unsent = x.0.unsent ∙ k.unsent; connection = x.0.connection ∙ ap (λ (c : ConnectionState). connection_after c Finished) k.connection },
    x.1 ∙ ap (λ (c : ConnectionState). ends c t.input.filled) k.connection ∙ ap (λ (l : List ℕ). ends s.connection l) k.input.filled,
  )

-- each call, given that it is so of a feed
module _ (fed_on : (s read new : EndpointState) (piece : List ℕ) (used : ℕ) (o : Outcome) → IsKept s read → IsFed read new piece used o → Does s new (Feed piece) (Fed used o)) where
  does_on : (s t u : EndpointState) (c : Call) (a : Answer) → IsKept s t → Does t u c a → Does s u c a
  does_on s t u (InSession channel c) a k x = in_session s t u k channel c a x
  does_on s t u Close a k x = closes s t u k a x
  does_on s t u (CloseWith r) a k x = closes_with s t u k r a x
  does_on s t u Heartbeat a k x = beats s t u k a x
  does_on s t u (Feed piece) (Fed used o) k x = fed_on s t u piece used o k x
  does_on s t u (Output room) (MovedOut bytes) k x = moves s t u k room bytes x
  does_on s t u Finish (Ended end) k x = finishes s t u k end x
  does_on s t u Held (Holds n) k x = (
    kept_on k x.0,
    x.1 ∙ ap (λ (l : List ℕ). length l + length t.unsent + connection_bytes t.connection) k.input.filled
        ∙ ap (λ (l : List ℕ). length s.input.filled + length l + connection_bytes t.connection) k.unsent ∙ ap (λ (c : ConnectionState). length s.input.filled + length s.unsent + connection_bytes c) k.connection,
  )
  does_on s t u (Feed piece) Accepted k x = absurd x
  does_on s t u (Feed piece) (Dropped n) k x = absurd x
  does_on s t u (Feed piece) (Named n) k x = absurd x
  does_on s t u (Feed piece) (HandedUp d) k x = absurd x
  does_on s t u (Feed piece) (Refused f) k x = absurd x
  does_on s t u (Feed piece) (MovedOut bytes) k x = absurd x
  does_on s t u (Feed piece) (Holds n) k x = absurd x
  does_on s t u (Feed piece) (Ended end) k x = absurd x
  does_on s t u (Output room) (Fed used told) k x = absurd x
  does_on s t u (Output room) Accepted k x = absurd x
  does_on s t u (Output room) (Dropped n) k x = absurd x
  does_on s t u (Output room) (Named n) k x = absurd x
  does_on s t u (Output room) (HandedUp d) k x = absurd x
  does_on s t u (Output room) (Refused f) k x = absurd x
  does_on s t u (Output room) (Holds n) k x = absurd x
  does_on s t u (Output room) (Ended end) k x = absurd x
  does_on s t u Finish (Fed used told) k x = absurd x
  does_on s t u Finish Accepted k x = absurd x
  does_on s t u Finish (Dropped n) k x = absurd x
  does_on s t u Finish (Named n) k x = absurd x
  does_on s t u Finish (HandedUp d) k x = absurd x
  does_on s t u Finish (Refused f) k x = absurd x
  does_on s t u Finish (MovedOut bytes) k x = absurd x
  does_on s t u Finish (Holds n) k x = absurd x
  does_on s t u Held (Fed used told) k x = absurd x
  does_on s t u Held Accepted k x = absurd x
  does_on s t u Held (Dropped n) k x = absurd x
  does_on s t u Held (Named n) k x = absurd x
  does_on s t u Held (HandedUp d) k x = absurd x
  does_on s t u Held (Refused f) k x = absurd x
  does_on s t u Held (MovedOut bytes) k x = absurd x
  does_on s t u Held (Ended end) k x = absurd x

  -- and so each run
  pub run_on : (s t u : EndpointState) (calls : List Call) (answers : List Answer) → IsKept s t → Run t calls answers u → IsRunTo s calls answers u
  run_on s t u [] [] k x = record { last = s; run = refl; same = subst (λ (v : EndpointState). IsKept s v) (sym x) k }
  run_on s t u [] (a ∷ answers) k x = absurd x
  run_on s t u (c ∷ calls) [] k x = absurd x
  run_on s t u (c ∷ calls) (a ∷ answers) k x = record { last = u; run = (x.0, does_on s t x.0 c a k x.1, x.2); same = kept_same u }
