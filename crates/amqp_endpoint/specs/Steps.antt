-- One step of an endpoint, from the bytes of a piece, or a call, to the bytes added to its output, the answer, and the new state.
use Rattle.std.specs.Prelude.{◌≡◌, ℕ, ◌≤◌, ◌⊎◌, Bool, true, false, if◌then◌else◌, List, ◌++◌, Option, Some, None}
use Rattle.amqp_frame.specs.declared.units.Stage.{Stage}
use Rattle.amqp_frame.specs.Splits.{SplitterState, AsksNext, Waits, IsTaken, IsUnchanged, IsEmptied}
use Rattle.amqp_frame.specs.Units.{StreamUnit, HeaderUnit, FrameUnit, FaultUnit, due_after}
use Rattle.amqp_endpoint.specs.declared.event.Event.{Event}
use Rattle.amqp_endpoint.specs.declared.event.Outcome.{Outcome}
use Rattle.amqp_endpoint.specs.declared.event.Outcome.TheVariants as outcome
use Rattle.amqp_endpoint.specs.Calls.{has_room}
use Rattle.amqp_endpoint.specs.Connections.{ConnectionState, connection_after, is_dead}
use Rattle.amqp_endpoint.specs.Lines.{line_of, event_on, told_on, may_grow_on}
use Rattle.amqp_endpoint.specs.Replies.{reply_on}

-- an endpoint: the bytes that were taken and not acted upon, those that were not moved out, and the connection
pub record EndpointState : Type 0 where
  pub input : SplitterState
  pub unsent : List ℕ
  pub connection : ConnectionState

-- Taking bytes. -------------------------------------------------------------------------------------------------------

-- How many bytes of the unit that is due are asked for next; none once the connection is over, whatever its splitter asks for.
abbrev pub AsksIf : Bool → ℕ → Stage → List ℕ → ℕ → Type 0
AsksIf true max stage bytes n = n ≡ 0
AsksIf false max stage bytes n = AsksNext max stage bytes n

abbrev pub AsksFor : EndpointState → ℕ → Type 0
AsksFor s n = AsksIf (is_dead s.connection.phase) s.input.limit s.input.stage s.input.filled n

-- how many bytes may have been read: none, or at most as many as are asked for
abbrev pub MayRead : EndpointState → ℕ → Type 0
MayRead s n = (n ≡ 0) ⊎ ((m : ℕ) × AsksFor s m × (n ≤ m))

-- Acting upon a unit. -------------------------------------------------------------------------------------------------

-- the header needs no room in the output
abbrev pub needs_room : StreamUnit → Bool
needs_room (HeaderUnit bytes) = false
needs_room (FrameUnit bytes) = true
needs_room (FaultUnit fault bytes) = true

-- the outcome of a unit: its event, if it has one; else that more is needed, unless the connection is over
abbrev pub told_outcome : ConnectionState → Option Event → Outcome
told_outcome after (Some e) = outcome.Event e
told_outcome after None = if is_dead after.phase then outcome.Dead else outcome.More

abbrev pub acted_after : ConnectionState → StreamUnit → ConnectionState
acted_after s u = connection_after s (event_on s (line_of s u))

abbrev pub acted_outcome : ConnectionState → StreamUnit → Outcome
acted_outcome s u = told_outcome (acted_after s u) (told_on s (line_of s u))

-- the unit was acted upon: it left the buffer, and was answered and reported
pub record IsActed (old new : EndpointState) (u : StreamUnit) (answer : Outcome) : Type 0 where
  pub input : IsEmptied old.input new.input (due_after u)
  pub unsent : new.unsent ≡ old.unsent ++ reply_on old.connection (line_of old.connection u)
  pub connection : new.connection ≡ acted_after old.connection u
  pub told : answer ≡ acted_outcome old.connection u

-- nothing has changed
pub record IsKept (old new : EndpointState) : Type 0 where
  pub input : IsUnchanged old.input new.input
  pub unsent : new.unsent ≡ old.unsent
  pub connection : new.connection ≡ old.connection

-- A unit that waits is acted upon if the output has room for its answer, or it is the header; else it waits. A refusal of memory is answered only if the unit may need
-- some.
abbrev pub Acts : EndpointState → EndpointState → StreamUnit → Bool → Outcome → Type 0
Acts old new u false answer = IsKept old new × (answer ≡ outcome.Blocked)
Acts old new u true answer = IsActed old new u answer ⊎ (IsKept old new × (answer ≡ outcome.NoMemory) × (may_grow_on (line_of old.connection u) ≡ true))

abbrev pub room_for : List ℕ → StreamUnit → Bool
room_for unsent u = if needs_room u then has_room unsent else true

abbrev pub may_act : EndpointState → StreamUnit → Bool
may_act s u = room_for s.unsent u

-- what a unit that waits results in, or none
pub record Comes (old new : EndpointState) (answer : Outcome) : Type 0 where
  pub unit : (u : StreamUnit) → Waits old.input u → Acts old new u (may_act old u) answer
  pub none : ((u : StreamUnit) → Waits old.input u → ⊥) → IsKept old new × (answer ≡ told_outcome old.connection None)

-- Bytes are taken, and what then waits is acted upon.
pub record TakesAndActs (old new : EndpointState) (piece : List ℕ) (used : ℕ) (answer : Outcome) : Type 0 where
  pub between : SplitterState
  pub taken : IsTaken old.input between piece used
  pub comes : Comes (record old { input = between }) new answer

-- One feed. A connection that is over takes nothing.
abbrev pub FeedDone : Bool → EndpointState → EndpointState → List ℕ → ℕ → Outcome → Type 0
FeedDone true old new piece used answer = IsKept old new × (used ≡ 0) × (answer ≡ outcome.Dead)
FeedDone false old new piece used answer = TakesAndActs old new piece used answer

abbrev pub IsFed : EndpointState → EndpointState → List ℕ → ℕ → Outcome → Type 0
IsFed old new piece used answer = FeedDone (is_dead old.connection.phase) old new piece used answer
