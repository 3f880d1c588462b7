-- Two histories of one run are the same.
use Rattle.std.proofs.Common.{arith, ◌≡◌, ℕ, zero, suc, ◌^◌, ◌<◌, ◌≤◌, inl, inr, Bool, true, false, List, [], ◌∷◌, ◌++◌, length, take, drop, refl, sym, ap, ◌∙◌, subst, Option, Some, None}
use Rattle.std.specs.Prelude.{if◌then◌else◌, ◌||◌}
use Rattle.std.specs.List.{list_any, flat_map}
use Rattle.std.proofs.lemmas.List.{append-nil, append_cancel_left, length-append}
use Rattle.amqp_frame.specs.Splits.{SplitterState, Waits, IsUnchanged, IsTaken}
use Rattle.amqp_frame.specs.Units.{StreamUnit, bytes_of, IsUnit, AreUnits, due_after, due_behind}
use Rattle.amqp_frame.specs.declared.units.Stage.{Stage}
use Rattle.amqp_frame.specs.declared.units.Stage.TheVariants as due
use Rattle.amqp_frame.proofs.Fronts.{one_front, waits_or_not}
use Rattle.amqp_frame.proofs.Histories.{joined_more}
use Rattle.amqp_frame.proofs.Readings.{unit_length}
use Rattle.amqp_reason.specs.Reasons.{Reason}
use Rattle.amqp_session.specs.Calls as session
use Rattle.amqp_session.specs.Faults.{or_else, where_so}
use Rattle.amqp_endpoint.specs.declared.event.Event.{Event}
use Rattle.amqp_endpoint.specs.declared.event.Outcome.{Outcome}
use Rattle.amqp_endpoint.specs.declared.event.Outcome.TheVariants as outcome
use Rattle.amqp_endpoint.specs.declared.fault.CallFault.{CallFault}
use Rattle.amqp_endpoint.specs.declared.fault.CallFault.TheVariants as refused
use Rattle.amqp_endpoint.specs.declared.phase.Phase.{Phase}
use Rattle.amqp_endpoint.specs.declared.phase.Phase.TheVariants as phase
use Rattle.amqp_endpoint.specs.Calls.{call_fault, call_event, call_spoken, open_call_fault, close_call_spoken, heartbeat, at_session, full_fault, unopened_fault, writes, close_with_fault, close_with_spoken, reason_fault}
use Rattle.amqp_endpoint.specs.Configs.{Configured}
use Rattle.amqp_endpoint.specs.Connections as event
use Rattle.amqp_endpoint.specs.Connections.{ConnectionState, ConnectionEvent, connection_after, ConnectionMay, IsTimely, is_dead, is_closing, is_end, slot_at}
use Rattle.amqp_endpoint.specs.Histories.{state_of, Accepted}
use Rattle.amqp_endpoint.specs.Lines as line
use Rattle.amqp_endpoint.specs.Lines.{Line, line_of, event_on, told_on}
use Rattle.amqp_endpoint.specs.Replies.{joined, reply_on}
use Rattle.amqp_endpoint.specs.Runs as given
use Rattle.amqp_endpoint.specs.Runs.{Call, Feed, InSession, Close, CloseWith, Heartbeat, Output, Held, Finish, Answer, Fed, Dropped, Named, HandedUp, Refused, MovedOut, Holds, Ended}
use Rattle.amqp_endpoint.specs.Runs.{IsWritten, IsBeat, IsMoved, IsFinished, Does, Run, IsStart, Happened, Acted, Called, Closed, ClosedWith, Beat, Over, units_of, events}
use Rattle.amqp_endpoint.specs.Steps.{EndpointState, IsKept, IsActed, Acts, Comes, FeedDone, may_act, room_for, told_outcome, acted_after}
use Rattle.amqp_endpoint.specs.Traces.{moved_by, Told, Tells, Done, Ends, all_taken, heard, has_finished, event_told, told_of, tellings, IsTraced, IsWholeRun}
use Rattle.amqp_endpoint.proofs.Steps.{ConnectionBegins, ConnectionGoesOn, all_sound}
use Rattle.amqp_endpoint.proofs.Traces.{ended_in}

-- A call with its answer has one outcome. -------------------------------------------------------------------------------

-- Endpoints of which nothing differs but the reserved bytes, and what is due once the connection is over.
record Alike (max : ℕ) (s t : EndpointState) : Type 0 where
  pub limit : s.input.limit ≡ max
  pub other : t.input.limit ≡ max
  pub filled : t.input.filled ≡ s.input.filled
  pub unsent : t.unsent ≡ s.unsent
  pub connection : t.connection ≡ s.connection
  pub stage : is_dead s.connection.phase ≡ false → t.input.stage ≡ s.input.stage

-- both buffers stay, and the rest stays alike
same_input : (max : ℕ) (old new was is : EndpointState) → Alike max old was → IsUnchanged old.input new.input → IsUnchanged was.input is.input → is.unsent ≡ new.unsent →
    is.connection ≡ new.connection → (is_dead new.connection.phase ≡ false → is_dead old.connection.phase ≡ false) → Alike max new is
same_input max old new was is x u v unsent connection before = record {
  limit = u.limit ∙ x.limit;
  other = v.limit ∙ x.other;
  filled = v.filled ∙ x.filled ∙ sym u.filled;
  unsent = unsent;
  connection = connection;
  stage = λ alive. v.stage ∙ x.stage (before alive) ∙ sym u.stage;
}

kept_alike : (max : ℕ) (old new was is : EndpointState) → Alike max old was → IsKept old new → IsKept was is → Alike max new is
kept_alike max old new was is x k m =
    same_input max old new was is x k.input m.input (m.unsent ∙ x.unsent ∙ sym k.unsent) (m.connection ∙ x.connection ∙ sym k.connection)
    (λ alive. subst (λ (c : ConnectionState). is_dead c.phase ≡ false) k.connection alive)

-- something happens to the connection, and something is written, by what the connection is
written_alike : (max : ℕ) (f : ConnectionState → ConnectionEvent) (g : ConnectionState → List ℕ) (old new was is : EndpointState) → Alike max old was → is_dead old.connection.phase ≡ false →
    IsWritten old new (f old.connection) (g old.connection) → IsWritten was is (f was.connection) (g was.connection) → Alike max new is
written_alike max f g old new was is x before w v =
    same_input max old new was is x w.input v.input
    (v.unsent ∙ ap (λ (u : List ℕ). u ++ g was.connection) x.unsent ∙ ap (λ (c : ConnectionState). old.unsent ++ g c) x.connection ∙ sym w.unsent)
    (v.connection ∙ ap (λ (c : ConnectionState). connection_after c (f c)) x.connection ∙ sym w.connection) (λ alive. before)

beat_alike : (max : ℕ) (old new was is : EndpointState) → Alike max old was → IsBeat old new → IsBeat was is → Alike max new is
beat_alike max old new was is x b d =
    same_input max old new was is x b.input d.input (d.unsent ∙ ap (λ (u : List ℕ). u ++ heartbeat) x.unsent ∙ sym b.unsent) (d.connection ∙ x.connection ∙ sym b.connection)
    (λ alive. subst (λ (c : ConnectionState). is_dead c.phase ≡ false) b.connection alive)

moved_alike : (max : ℕ) (old new was is : EndpointState) (room : ℕ) (bytes : List ℕ) → Alike max old was → IsMoved old new room bytes → IsMoved was is room bytes → Alike max new is
moved_alike max old new was is room bytes x m n =
    same_input max old new was is x m.input n.input (n.unsent ∙ ap (λ (u : List ℕ). drop room u) x.unsent ∙ sym m.unsent) (n.connection ∙ x.connection ∙ sym m.connection)
    (λ alive. subst (λ (c : ConnectionState). is_dead c.phase ≡ false) m.connection alive)

-- behind the end of the input the connection is over
finished_alike : (max : ℕ) (old new was is : EndpointState) → Alike max old was → IsFinished old new → IsFinished was is → Alike max new is
finished_alike max old new was is x f d = record {
  limit = f.limit ∙ x.limit;
  other = d.limit ∙ x.other;
  filled = d.filled ∙ sym f.filled;
  unsent = d.unsent ∙ x.unsent ∙ sym f.unsent;
  connection = d.connection ∙ ap (λ (c : ConnectionState). connection_after c event.Finished) x.connection ∙ sym f.connection;
  stage = λ alive. absurd (grind (arith, subst (λ (c : ConnectionState). is_dead c.phase ≡ false) f.connection alive));
}

-- Feeds. ----------------------------------------------------------------------------------------------------------------

waits_so : (a b : SplitterState) (u : StreamUnit) → b.limit ≡ a.limit → b.stage ≡ a.stage → b.filled ≡ a.filled → Waits a u → Waits b u
waits_so a b u l d f w = record {
  is = subst (λ (m : ℕ). IsUnit m b.stage u) (sym l) (subst (λ (s : Stage). IsUnit a.limit s u) (sym d) w.is);
  whole = f ∙ w.whole;
}

taken_alike : (max : ℕ) (old was : EndpointState) (between among : SplitterState) (piece : List ℕ) (used : ℕ) → Alike max old was → IsTaken old.input between piece used →
    IsTaken was.input among piece used → Alike max (record old { input = between }) (record was { input = among })
taken_alike max old was between among piece used x t v = record {
  limit = t.limit ∙ x.limit;
  other = v.limit ∙ x.other;
  filled = v.filled ∙ ap (λ (w : List ℕ). w ++ take used piece) x.filled ∙ sym t.filled;
  unsent = x.unsent;
  connection = x.connection;
  stage = λ alive. v.stage ∙ x.stage alive ∙ sym t.stage;
}

acted_alike : (max : ℕ) (old new was is : EndpointState) (u : StreamUnit) (answer : Outcome) → Alike max old was → IsActed old new u answer → IsActed was is u answer → Alike max new is
acted_alike max old new was is u answer x a b = record {
  limit = a.input.limit ∙ x.limit;
  other = b.input.limit ∙ x.other;
  filled = b.input.filled ∙ sym a.input.filled;
  unsent = b.unsent ∙ ap (λ (w : List ℕ). w ++ reply_on was.connection (line_of was.connection u)) x.unsent
      ∙ ap (λ (c : ConnectionState). old.unsent ++ reply_on c (line_of c u)) x.connection ∙ sym a.unsent;
  connection = b.connection ∙ ap (λ (c : ConnectionState). acted_after c u) x.connection ∙ sym a.connection;
  stage = λ alive. b.input.stage ∙ sym a.input.stage;
}

silent : (dead : Bool) → (if dead then outcome.Dead else outcome.More) ≡ outcome.NoMemory → ⊥
silent true e = grind (arith, e)
silent false e = grind (arith, e)

-- what is told of a unit that was acted upon is no want of memory
no_want : (s : ConnectionState) (told : Option Event) → told_outcome s told ≡ outcome.NoMemory → ⊥
no_want s None e = silent (is_dead s.phase) e
no_want s (Some x) e = grind (arith, e)

acts_alike : (max : ℕ) (old new was is : EndpointState) (u : StreamUnit) (may : Bool) (answer : Outcome) → Alike max old was → Acts old new u may answer → Acts was is u may answer → Alike max new is
acts_alike max old new was is u false answer x a b = kept_alike max old new was is x a.0 b.0
acts_alike max old new was is u true answer x (inl a) (inl b) = acted_alike max old new was is u answer x a b
acts_alike max old new was is u true answer x (inl a) (inr b) = absurd (no_want (acted_after old.connection u) (told_on old.connection (line_of old.connection u)) (sym a.told ∙ b.1))
acts_alike max old new was is u true answer x (inr a) (inl b) = absurd (no_want (acted_after was.connection u) (told_on was.connection (line_of was.connection u)) (sym b.told ∙ a.1))
acts_alike max old new was is u true answer x (inr a) (inr b) = kept_alike max old new was is x a.0 b.0

comes_alike : (max : ℕ) → 8 ≤ max → (old new was is : EndpointState) (answer : Outcome) → Alike max old was → is_dead old.connection.phase ≡ false → Comes old new answer → Comes was is answer →
    Alike max new is
comes_alike max least old new was is answer x alive c d =
    let limit = x.other ∙ sym x.limit in
    elim (waits_or_not old.input (subst (λ (m : ℕ). 8 ≤ m) (sym x.limit) least)) [
      | inl u ↦
          let other = d.unit u.0 (waits_so old.input was.input u.0 limit (x.stage alive) x.filled u.1) in
          acts_alike max old new was is u.0 (may_act old u.0) answer x (c.unit u.0 u.1) (subst (λ (w : List ℕ). Acts was is u.0 (room_for w u.0) answer) x.unsent other)
      | inr none ↦
          kept_alike max old new was is x (c.none none).0
          (d.none (λ u w. none u (waits_so was.input old.input u (sym limit) (sym (x.stage alive)) (sym x.filled) w))).0
    ]

fed_alike : (max : ℕ) → 8 ≤ max → (dead : Bool) (old new was is : EndpointState) (piece : List ℕ) (used : ℕ) (answer : Outcome) → Alike max old was → is_dead old.connection.phase ≡ dead →
    FeedDone dead old new piece used answer → FeedDone dead was is piece used answer → Alike max new is
fed_alike max least true old new was is piece used answer x dead a b = kept_alike max old new was is x a.0 b.0
fed_alike max least false old new was is piece used answer x alive a b =
    comes_alike max least (record old { input = a.between }) new (record was { input = b.between }) is answer
    (taken_alike max old was a.between b.between piece used x a.taken b.taken) alive a.comes b.comes

-- Calls. ----------------------------------------------------------------------------------------------------------------

not_dead : (dead closing : Bool) (rest : Option CallFault) → or_else (where_so (dead || closing) refused.Dead) rest ≡ None → dead ≡ false
not_dead true closing rest e = absurd (grind (arith, e))
not_dead false closing rest e = refl

asked_alike : (max : ℕ) (old new was is : EndpointState) (channel : ℕ) (c : session.Call) → Alike max old was → call_fault old.connection old.unsent channel c ≡ None →
    IsWritten old new (call_event old.connection channel c) (joined (call_spoken old.connection channel c)) →
    IsWritten was is (call_event was.connection channel c) (joined (call_spoken was.connection channel c)) → Alike max new is
asked_alike max old new was is channel c x none w v =
    let s = old.connection in
    written_alike max (λ s. call_event s channel c) (λ s. joined (call_spoken s channel c)) old new was is x
    (not_dead (is_dead s.phase) (is_closing s.phase) (or_else (at_session (slot_at s channel) c) (if writes c then full_fault old.unsent else None)) none) w v

closed_alike : (max : ℕ) (old new was is : EndpointState) → Alike max old was → open_call_fault old.connection old.unsent ≡ None →
    IsWritten old new event.CloseAsked (joined close_call_spoken) → IsWritten was is event.CloseAsked (joined close_call_spoken) → Alike max new is
closed_alike max old new was is x none w v =
    let s = old.connection in
    written_alike max (λ s. event.CloseAsked) (λ s. joined close_call_spoken) old new was is x
    (not_dead (is_dead s.phase) (is_closing s.phase) (or_else (unopened_fault s) (full_fault old.unsent)) none) w v

closed_with_alike : (max : ℕ) (old new was is : EndpointState) (r : Reason) → Alike max old was → close_with_fault old.connection old.unsent r ≡ None →
    IsWritten old new event.CloseAsked (joined (close_with_spoken r)) → IsWritten was is event.CloseAsked (joined (close_with_spoken r)) → Alike max new is
closed_with_alike max old new was is r x none w v =
    let s = old.connection in
    written_alike max (λ s. event.CloseAsked) (λ s. joined (close_with_spoken r)) old new was is x
    (not_dead (is_dead s.phase) (is_closing s.phase) (or_else (unopened_fault s) (or_else (reason_fault r) (full_fault old.unsent))) none) w v

does_alike : (max : ℕ) → 8 ≤ max → (old new was is : EndpointState) (call : Call) (a : Answer) → Alike max old was → Does old new call a → Does was is call a → Alike max new is
does_alike max least old new was is (Feed piece) (Fed used o) x d e =
    fed_alike max least (is_dead old.connection.phase) old new was is piece used o x refl d (subst (λ (c : ConnectionState). FeedDone (is_dead c.phase) was is piece used o) x.connection e)
does_alike max least old new was is (InSession channel c) (Refused f) x d e = kept_alike max old new was is x d.1 e.1
does_alike max least old new was is (InSession channel c) (Fed n o) x d e = asked_alike max old new was is channel c x d.0 d.1 e.1
does_alike max least old new was is (InSession channel c) given.Accepted x d e = asked_alike max old new was is channel c x d.0 d.1 e.1
does_alike max least old new was is (InSession channel c) (Dropped n) x d e = asked_alike max old new was is channel c x d.0 d.1 e.1
does_alike max least old new was is (InSession channel c) (Named n) x d e = asked_alike max old new was is channel c x d.0 d.1 e.1
does_alike max least old new was is (InSession channel c) (HandedUp y) x d e = asked_alike max old new was is channel c x d.0 d.1 e.1
does_alike max least old new was is (InSession channel c) (MovedOut b) x d e = asked_alike max old new was is channel c x d.0 d.1 e.1
does_alike max least old new was is (InSession channel c) (Holds n) x d e = asked_alike max old new was is channel c x d.0 d.1 e.1
does_alike max least old new was is (InSession channel c) (Ended z) x d e = asked_alike max old new was is channel c x d.0 d.1 e.1
does_alike max least old new was is Close (Refused f) x d e = kept_alike max old new was is x d.1 e.1
does_alike max least old new was is Close (Fed n o) x d e = closed_alike max old new was is x d.0 d.1 e.1
does_alike max least old new was is Close given.Accepted x d e = closed_alike max old new was is x d.0 d.1 e.1
does_alike max least old new was is Close (Dropped n) x d e = closed_alike max old new was is x d.0 d.1 e.1
does_alike max least old new was is Close (Named n) x d e = closed_alike max old new was is x d.0 d.1 e.1
does_alike max least old new was is Close (HandedUp y) x d e = closed_alike max old new was is x d.0 d.1 e.1
does_alike max least old new was is Close (MovedOut b) x d e = closed_alike max old new was is x d.0 d.1 e.1
does_alike max least old new was is Close (Holds n) x d e = closed_alike max old new was is x d.0 d.1 e.1
does_alike max least old new was is Close (Ended z) x d e = closed_alike max old new was is x d.0 d.1 e.1
does_alike max least old new was is (CloseWith r) (Refused f) x d e = kept_alike max old new was is x d.1 e.1
does_alike max least old new was is (CloseWith r) (Fed n o) x d e = closed_with_alike max old new was is r x d.0 d.1 e.1
does_alike max least old new was is (CloseWith r) given.Accepted x d e = closed_with_alike max old new was is r x d.0 d.1 e.1
does_alike max least old new was is (CloseWith r) (Dropped n) x d e = closed_with_alike max old new was is r x d.0 d.1 e.1
does_alike max least old new was is (CloseWith r) (Named n) x d e = closed_with_alike max old new was is r x d.0 d.1 e.1
does_alike max least old new was is (CloseWith r) (HandedUp y) x d e = closed_with_alike max old new was is r x d.0 d.1 e.1
does_alike max least old new was is (CloseWith r) (MovedOut b) x d e = closed_with_alike max old new was is r x d.0 d.1 e.1
does_alike max least old new was is (CloseWith r) (Holds n) x d e = closed_with_alike max old new was is r x d.0 d.1 e.1
does_alike max least old new was is (CloseWith r) (Ended z) x d e = closed_with_alike max old new was is r x d.0 d.1 e.1
does_alike max least old new was is Heartbeat (Refused f) x d e = kept_alike max old new was is x d.1 e.1
does_alike max least old new was is Heartbeat (Fed n o) x d e = beat_alike max old new was is x d.1 e.1
does_alike max least old new was is Heartbeat given.Accepted x d e = beat_alike max old new was is x d.1 e.1
does_alike max least old new was is Heartbeat (Dropped n) x d e = beat_alike max old new was is x d.1 e.1
does_alike max least old new was is Heartbeat (Named n) x d e = beat_alike max old new was is x d.1 e.1
does_alike max least old new was is Heartbeat (HandedUp y) x d e = beat_alike max old new was is x d.1 e.1
does_alike max least old new was is Heartbeat (MovedOut b) x d e = beat_alike max old new was is x d.1 e.1
does_alike max least old new was is Heartbeat (Holds n) x d e = beat_alike max old new was is x d.1 e.1
does_alike max least old new was is Heartbeat (Ended z) x d e = beat_alike max old new was is x d.1 e.1
does_alike max least old new was is (Output room) (MovedOut bytes) x d e = moved_alike max old new was is room bytes x d e
does_alike max least old new was is Held (Holds n) x d e = kept_alike max old new was is x d.0 e.0
does_alike max least old new was is Finish (Ended z) x d e = finished_alike max old new was is x d.0 e.0
does_alike max least old new was is call a x d e = absurd d

-- the same calls with the same answers lead to the same
run_alike : (max : ℕ) → 8 ≤ max → (s t : EndpointState) (calls : List Call) (answers : List Answer) (last other : EndpointState) → Alike max s t → Run s calls answers last →
    Run t calls answers other → Alike max last other
run_alike max least s t [] [] last other x r q = subst (λ (v : EndpointState). Alike max v other) (sym r) (subst (λ (v : EndpointState). Alike max s v) (sym q) x)
run_alike max least s t [] (a ∷ answers) last other x r q = absurd r
run_alike max least s t (c ∷ calls) [] last other x r q = absurd r
run_alike max least s t (c ∷ calls) (a ∷ answers) last other x r q =
    run_alike max least r.0 q.0 calls answers last other (does_alike max least s r.0 t q.0 c a x r.1 q.1) r.2 q.2

starts_alike : (config : Configured) (s t : EndpointState) → IsStart config s → IsStart config t → Alike config.max_frame s t
starts_alike config s t a b = record {
  limit = a.limit;
  other = b.limit;
  filled = b.filled ∙ sym a.filled;
  unsent = b.unsent ∙ sym a.unsent;
  connection = b.connection ∙ sym a.connection;
  stage = λ alive. b.stage ∙ sym a.stage;
}

-- One thing more. -------------------------------------------------------------------------------------------------------

-- what happened, but for units
abbrev aside : Happened → Option Happened
aside (Acted u) = None
aside x = Some x

abbrev called_by : Call → Option Happened
called_by (InSession channel c) = Some (Called channel c)
called_by Close = Some Closed
called_by (CloseWith r) = Some (ClosedWith r)
called_by Heartbeat = Some Beat
called_by c = None

-- the same, as what was told tells it
abbrev told_aside : List Told → Option Happened
told_aside [] = None
told_aside (Tells e ∷ more) = None
told_aside (Done c a ∷ more) = called_by c
told_aside (Ends ∷ more) = Some Over

event_aside : (e : Option Event) → told_aside (event_told e) ≡ None
event_aside None = refl
event_aside (Some e) = refl

aside_is : (s : ConnectionState) (x : Happened) → told_aside (told_of s x) ≡ aside x
aside_is s (Acted u) = event_aside (told_on s (line_of s u))
aside_is s x = refl

-- two things of which the same is told are one, or units
data IsSame (x y : Happened) : Type 0 where
  Same : x ≡ y → IsSame x y
  Units : (u v : StreamUnit) → x ≡ Acted u → y ≡ Acted v → IsSame x y

one_aside : (x y : Happened) → aside x ≡ aside y → IsSame x y
one_aside (Acted u) (Acted v) e = Units u v refl refl
one_aside (Acted u) y e = absurd (grind (arith, e))
one_aside x (Acted v) e = absurd (grind (arith, e))
one_aside x y e = Same (grind (arith, e))

none_aside : (x : Happened) → None ≡ aside x → (u : StreamUnit) × (x ≡ Acted u)
none_aside (Acted u) e = (u, refl)
none_aside x e = absurd (grind (arith, e))

-- no unit is acted upon once the connection is over
dead_late : (e : ConnectionEvent) → IsTimely phase.Dead e → e ≡ event.Finished
dead_late event.Broken t = absurd (grind (arith, t.0))
dead_late event.Failed t = absurd (grind (arith, t.0))
dead_late event.Finished t = refl
dead_late e t = absurd (grind (arith, t))

no_finish : (s : ConnectionState) (l : Line) → event_on s l ≡ event.Finished → ⊥
no_finish s line.HeaderAccepted e = grind (arith, e)
no_finish s l e = grind (arith, e)

-- the last of some units may stand where it stands
last_unit : (max : ℕ) (stage : Stage) (us : List StreamUnit) (u : StreamUnit) → AreUnits max stage (us ++ u ∷ []) → IsUnit max (due_behind stage us) u
last_unit max stage [] u all = all.0
last_unit max stage (v ∷ us) u all = last_unit max (due_after v) us u all.1

over_phase : (over : Bool) (p : Phase) → over ≡ true → (if over then phase.Dead else p) ≡ phase.Dead
over_phase true p e = refl
over_phase false p e = absurd (grind (arith, e))

left_in : (over : Bool) (rest : List ℕ) → over ≡ false → (if over then [] else rest) ≡ rest
left_in true rest e = absurd (grind (arith, e))
left_in false rest e = refl

module _ (begins : ConnectionBegins) (goes_on : ConnectionGoesOn) (config : Configured) (narrow : config.window < 2 ^ 31) (least : 8 ≤ config.max_frame) where
  -- behind the end of the input no unit is acted upon
  none_behind : (h : List Happened) (u : StreamUnit) → Accepted config (events config (Acted u ∷ h)) → has_finished h ≡ true → ⊥
  none_behind h u all over =
      let past = events config h in
      let s = state_of config past in
      let may = subst (λ (c : ConnectionState). ConnectionMay c (event_on s (line_of s u))) (all_sound begins goes_on config past narrow all.0).0 all.1 in
      let dead = over_phase (list_any is_end past) _ (ended_in config h over) in
      no_finish s (line_of s u) (dead_late (event_on s (line_of s u)) (subst (λ (p : Phase). IsTimely p (event_on s (line_of s u))) dead may.0))

  module _ (took moved : List ℕ) (told : List Told) (h : List Happened) (s t : EndpointState) (filled : t.input.filled ≡ s.input.filled) where
    -- where a unit waits the buffer is not empty
    not_acted : (u : StreamUnit) → IsTraced config took moved told h s → IsTraced config took moved told (Acted u ∷ h) t → ⊥
    not_acted u a b = by (has_finished h) refl
      where
        by : (over : Bool) → has_finished h ≡ over → ⊥
        by true over = none_behind h u b.accepted over
        by false live =
            let same : b.rest ≡ a.rest = sym (b.buffer ∙ left_in (has_finished h) b.rest live) ∙ filled ∙ a.buffer ∙ left_in (has_finished h) a.rest live in
            let all : flat_map bytes_of (units_of h) ++ a.rest ≡ flat_map bytes_of (units_of h) ++ (bytes_of u ++ b.rest) = sym a.units ∙ b.units ∙ joined_more (units_of h) u b.rest in
            let rest = append_cancel_left (flat_map bytes_of (units_of h)) a.rest (bytes_of u ++ b.rest) all in
            let long = unit_length config.max_frame (due_behind due.Header (units_of h)) u (last_unit config.max_frame due.Header (units_of h) u b.each) in
            let count = ap length rest ∙ length-append (bytes_of u) b.rest in
            let equal = ap length same in
            absurd (omega (arith, long, count, equal))

    -- units behind the same history, of the same bytes, are one
    one_unit : (u v : StreamUnit) → IsTraced config took moved told (Acted u ∷ h) s → IsTraced config took moved told (Acted v ∷ h) t → u ≡ v
    one_unit u v a b =
        let all : flat_map bytes_of (units_of h) ++ (bytes_of u ++ a.rest) ≡ flat_map bytes_of (units_of h) ++ (bytes_of v ++ b.rest) =
        sym (joined_more (units_of h) u a.rest) ∙ sym a.units ∙ b.units ∙ joined_more (units_of h) v b.rest in
        let rest = append_cancel_left (flat_map bytes_of (units_of h)) (bytes_of u ++ a.rest) (bytes_of v ++ b.rest) all in
        (one_front config.max_frame (due_behind due.Header (units_of h)) u v a.rest b.rest least (last_unit config.max_frame due.Header (units_of h) u a.each)
        (last_unit config.max_frame due.Header (units_of h) v b.each) rest).0

    -- what is told behind the same history is told of what happened
    told_behind : (x : Happened) → told ≡ tellings config h → told ≡ tellings config (x ∷ h) → told_of (state_of config (events config h)) x ≡ []
    told_behind x a b =
        sym (append_cancel_left (tellings config h) [] (told_of (state_of config (events config h)) x) (append-nil (tellings config h) ∙ sym a ∙ b))

    not_more : (x : Happened) → IsTraced config took moved told h s → IsTraced config took moved told (x ∷ h) t → ⊥
    not_more x a b =
        let now = state_of config (events config h) in
        let quiet = none_aside x (sym (ap told_aside (told_behind x a.telling b.telling)) ∙ aside_is now x) in
        not_acted quiet.0 a (subst (λ (y : Happened). IsTraced config took moved told (y ∷ h) t) quiet.1 b)

    one_more : (x y : Happened) → IsTraced config took moved told (x ∷ h) s → IsTraced config took moved told (y ∷ h) t → x ≡ y
    one_more x y a b =
        let now = state_of config (events config h) in
        let heard = append_cancel_left (tellings config h) (told_of now x) (told_of now y) (sym a.telling ∙ b.telling) in
        elim (one_aside x y (sym (aside_is now x) ∙ ap told_aside heard ∙ aside_is now y)) [
          | Same e ↦ e
          | Units u v p q ↦
              let same = one_unit u v (subst (λ (z : Happened). IsTraced config took moved told (z ∷ h) s) p a) (subst (λ (z : Happened). IsTraced config took moved told (z ∷ h) t) q b) in
              p ∙ ap Acted same ∙ sym q
        ]

  -- at most one thing more, behind the same history
  one_added : (took moved : List ℕ) (told : List Told) (h : List Happened) (s t : EndpointState) (xs ys : List Happened) → t.input.filled ≡ s.input.filled → length xs ≤ 1 → length ys ≤ 1 →
      IsTraced config took moved told (xs ++ h) s → IsTraced config took moved told (ys ++ h) t → xs ≡ ys
  one_added took moved told h s t [] [] same l m a b = refl
  one_added took moved told h s t [] (y ∷ []) same l m a b = absurd (not_more took moved told h s t same y a b)
  one_added took moved told h s t (x ∷ []) [] same l m a b = absurd (not_more took moved told h t s (sym same) x b a)
  one_added took moved told h s t (x ∷ []) (y ∷ []) same l m a b = ap (λ (z : Happened). z ∷ []) (one_more took moved told h s t same x y a b)
  one_added took moved told h s t (x ∷ z ∷ xs) ys same l m a b = absurd (omega (arith, l))
  one_added took moved told h s t xs (y ∷ z ∷ ys) same l m a b = absurd (omega (arith, m))

  -- after each call
  each_is_one : (calls : List Call) (answers : List Answer) (last other : EndpointState) (a : IsWholeRun config calls answers last) (b : IsWholeRun config calls answers other) (n : ℕ)
      (within : n ≤ length calls) → (a.each n within).past.history ≡ (b.each n within).past.history
  each_is_one calls answers last other a b zero within = a.empty within ∙ sym (b.empty within)
  each_is_one calls answers last other a b (suc n) within =
      let before : n ≤ length calls = omega (arith, within) in
      let past = each_is_one calls answers last other a b n before in
      let p = a.grows n before within in
      let q = b.grows n before within in
      let x = a.each (suc n) within in
      let y = b.each (suc n) within in
      let alike = run_alike config.max_frame least a.start b.start (take (suc n) calls) (take (suc n) answers) x.now y.now (starts_alike config a.start b.start a.new b.new) x.so_far y.so_far in
      let took = all_taken (take (suc n) calls) (take (suc n) answers) in
      let moved = flat_map moved_by (take (suc n) answers) in
      let told = heard (take (suc n) calls) (take (suc n) answers) in
      let h = (a.each n before).past.history in
      let other_way : y.past.history ≡ q.0 ++ h = q.2 ∙ ap (λ (v : List Happened). q.0 ++ v) (sym past) in
      let same = one_added took moved told h x.now y.now p.0 q.0 alike.filled p.1 q.1
      (subst (λ (v : List Happened). IsTraced config took moved told v x.now) p.2 x.past.traced) (subst (λ (v : List Happened). IsTraced config took moved told v y.now) other_way y.past.traced) in
      p.2 ∙ ap (λ (v : List Happened). v ++ h) same ∙ sym other_way

  pub one_history : (calls : List Call) (answers : List Answer) (last other : EndpointState) (a : IsWholeRun config calls answers last) (b : IsWholeRun config calls answers other) →
      a.past.history ≡ b.past.history
  one_history calls answers last other a b =
      let all : length calls ≤ length calls = omega arith in
      sym (a.whole all) ∙ each_is_one calls answers last other a b (length calls) all ∙ b.whole all
