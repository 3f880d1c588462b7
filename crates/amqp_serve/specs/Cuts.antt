-- What serving makes of a stream, unit by unit, however its reader cut it (AMQP 1.0, part 2, sections 2.3, 2.5.6, 2.6.7 and 2.6.12).
use Rattle.std.specs.Prelude.{◌≡◌, ℕ, zero, suc, ◌⊎◌, true, false, if◌then◌else◌, List, [], ◌∷◌, ◌++◌, length, Option, Some, None}
use Rattle.std.specs.List.{flat_map}
use Rattle.amqp_frame.specs.Units.{StreamUnit, bytes_of, AreUnits, IsRest, due_behind}
use Rattle.amqp_frame.specs.declared.units.Stage.TheVariants as due
use Rattle.amqp_session.specs.Calls as session
use Rattle.amqp_session.specs.Calls.{Widen, Grant, Take, Settle}
use Rattle.amqp_endpoint.specs.declared.event.End.{End}
use Rattle.amqp_endpoint.specs.declared.event.End.TheVariants as ended
use Rattle.amqp_endpoint.specs.declared.fault.CallFault.{CallFault}
use Rattle.amqp_serve.specs.declared.rules.Rule.{Rule}
use Rattle.amqp_endpoint.specs.Calls.{call_fault, call_event, call_spoken}
use Rattle.amqp_endpoint.specs.Configs.{Configured}
use Rattle.amqp_endpoint.specs.Connections.{ConnectionState, connection_begins, connection_after, slot_at, is_dead}
use Rattle.amqp_endpoint.specs.Lines.{line_of}
use Rattle.amqp_endpoint.specs.Replies.{joined, reply_on}
use Rattle.amqp_endpoint.specs.Runs.{InSession, Answer, Refused, accepted_answer, end_between}
use Rattle.amqp_serve.specs.Serving.{lack, all_supplies, Stand, ToppingUp, Receiving, Settling, Starved, Over, stand_told, stand_taken, recorded_by}
use Rattle.amqp_serve.specs.declared.supplies.Supply.{Supply}
use Rattle.amqp_serve.specs.declared.supplies.Supply.TheVariants.{WindowOf, CreditOf}
use Rattle.amqp_endpoint.specs.Steps.{acted_after, acted_outcome}

-- A connection, with all that was written and all that was recorded until then.
pub record Made : Type 0 where
  pub connection : ConnectionState
  pub written : List ℕ
  pub recorded : List ℕ

-- Calls. --------------------------------------------------------------------------------------------------------------

-- A call to a session, when nothing waits to be sent. A refused call changes nothing.
abbrev pub called_by : Option CallFault → Made → ℕ → session.Call → Made
called_by None m channel c = record {
  connection = connection_after m.connection (call_event m.connection channel c);
  written = m.written ++ joined (call_spoken m.connection channel c);
  recorded = m.recorded ++ recorded_by (InSession channel c) (accepted_answer (slot_at m.connection channel) c);
}
called_by (Some fault) m channel c = m

abbrev pub called : Made → ℕ → session.Call → Made
called m channel c = called_by (call_fault m.connection [] channel c) m channel c

-- the answer to such a call
abbrev pub answered_by : Option CallFault → Answer → Answer
answered_by None answer = answer
answered_by (Some fault) answer = Refused fault

abbrev pub answer_at : ConnectionState → ℕ → session.Call → Answer
answer_at s channel c = answered_by (call_fault s [] channel c) (accepted_answer (slot_at s channel) c)

-- Topping up. ---------------------------------------------------------------------------------------------------------

abbrev pub supply_channel : Supply → ℕ
supply_channel (WindowOf channel) = channel
supply_channel (CreditOf channel handle) = channel

-- the call that gives a supply this much
abbrev pub call_for : Supply → ℕ → session.Call
call_for (WindowOf channel) n = Widen n
call_for (CreditOf channel handle) n = Grant handle n

abbrev pub topped_by : ℕ → Made → Supply → Made
topped_by zero m supply = m
topped_by (suc n) m supply = called m (supply_channel supply) (call_for supply (suc n))

-- a supply is given what it lacks
abbrev pub topped : Rule → Made → Supply → Made
topped p m supply = topped_by (lack p m.connection supply) m supply

-- these supplies, one after another
abbrev pub all_topped : Rule → List Supply → Made → Made
all_topped p [] m = m
all_topped p (supply ∷ supplies) m = all_topped p supplies (topped p m supply)

-- all supplies of the connection
abbrev pub topped_up : Rule → Made → Made
topped_up p m = all_topped p (all_supplies m.connection.config) m

-- What is done from a stand on, until the next piece is fed. ------------------------------------------------------------

-- after a message was taken
abbrev pub done_taken : Rule → Stand → Made → Made
done_taken p (ToppingUp supplies) m = all_topped p supplies m
done_taken p (Receiving channel handle) m = m  -- no take leads there, nor to the last two
done_taken p (Settling channel id) m = topped_up p (called m channel (Settle id p.outcome))
done_taken p Starved m = m
done_taken p Over m = m

-- a message that is ready is taken first
abbrev pub done_from : Rule → Stand → Made → Made
done_from p (Receiving channel handle) m =
    let after = called m channel (Take handle) in done_taken p (stand_taken after.connection.config channel (answer_at m.connection channel (Take handle))) after
done_from p stand m = done_taken p stand m

-- Units. --------------------------------------------------------------------------------------------------------------

-- the unit is acted upon and answered
abbrev pub answered : Made → StreamUnit → Made
answered m u = record m { connection = acted_after m.connection u; written = m.written ++ reply_on m.connection (line_of m.connection u) }

-- and what follows from it is done
abbrev pub served_one : Rule → Made → StreamUnit → Made
served_one p m u = done_from p (stand_told (acted_after m.connection u).config (acted_outcome m.connection u)) (answered m u)

abbrev pub served_all : Rule → Made → List StreamUnit → Made
served_all p m [] = m
served_all p m (u ∷ us) = served_all p (served_one p m u) us

-- the connection is not over before any of them
abbrev pub AreTimely : Rule → Made → List StreamUnit → Type 0
AreTimely p m [] = Unit {0}
AreTimely p m (u ∷ us) = (is_dead m.connection.phase ≡ false) × AreTimely p (served_one p m u) us

-- A whole stream. -----------------------------------------------------------------------------------------------------

-- a new connection, before anything is written or recorded
abbrev pub first_made : Configured → Made
first_made config = record { connection = connection_begins config; written = []; recorded = [] }

-- what is left of the stream in the buffer: nothing once the connection is over
abbrev pub left_over : ConnectionState → List ℕ → List ℕ
left_over s rest = if is_dead s.phase then [] else rest

-- how a connection stood at the end of its input, with this left in the buffer [2.4.6]
abbrev pub end_with : ConnectionState → List ℕ → End
end_with s buffer = if s.failed then ended.Failed else (if s.closed then ended.Closed else end_between (length buffer))

-- The bytes are units and a rest. Served one by one, until the connection is over or none is left, the units make this of a new connection, and it ends so.
pub record IsMade (p : Rule) (config : Configured) (bytes : List ℕ) (made : Made) (end : End) : Type 0 where
  pub units : List StreamUnit
  pub rest : List ℕ
  pub joined : bytes ≡ flat_map bytes_of units ++ rest
  pub each : AreUnits config.max_frame due.Header units
  pub timely : AreTimely p (first_made config) units
  pub behind : (is_dead made.connection.phase ≡ true) ⊎ IsRest config.max_frame (due_behind due.Header units) rest
  pub is : made ≡ served_all p (first_made config) units
  pub ends : end ≡ end_with made.connection (left_over made.connection rest)

-- Two devices that held the same bytes, if these are known, hold the same bytes now.
abbrev pub AreAlike : Option (List ℕ) → Option (List ℕ) → Option (List ℕ) → Option (List ℕ) → Type 0
AreAlike held now held2 now2 = (bytes : List ℕ) → held ≡ Some bytes → held2 ≡ Some bytes → now ≡ now2

-- the bytes begin with this front
abbrev pub IsFront : List ℕ → List ℕ → Type 0
IsFront front bytes = (behind : List ℕ) × (bytes ≡ front ++ behind)
