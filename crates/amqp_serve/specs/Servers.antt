-- A server between two calls, and what a call does with it (AMQP 1.0, part 2, section 2.4).
use Rattle.std.specs.Prelude.{◌≡◌, ℕ, ◌≤◌, Bool, true, false, if◌then◌else◌, List, [], drop, length, Option, Some, None, Result, Ok, Err}
use Rattle.amqp_endpoint.specs.declared.event.End.{End}
use Rattle.amqp_endpoint.specs.declared.event.Outcome.TheVariants as outcome
use Rattle.amqp_endpoint.specs.declared.fault.CallFault.{CallFault}
use Rattle.amqp_endpoint.specs.Calls.{open_call_fault, close_call_spoken}
use Rattle.amqp_endpoint.specs.Connections as event
use Rattle.amqp_endpoint.specs.Connections.{is_dead}
use Rattle.amqp_endpoint.specs.Replies.{joined}
use Rattle.amqp_endpoint.specs.Runs.{IsWritten, IsFinished, end_of}
use Rattle.amqp_endpoint.specs.Steps.{EndpointState, IsKept}
use Rattle.amqp_serve.specs.declared.server.ServerFault.{ServerFault}
use Rattle.amqp_serve.specs.declared.server.ServerFault.TheVariants as refused
use Rattle.amqp_serve.specs.declared.server.Status.{Status}
use Rattle.amqp_serve.specs.declared.server.Status.TheVariants as status
use Rattle.amqp_serve.specs.declared.serving.ServeFault.{ServeFault}
use Rattle.amqp_serve.specs.declared.serving.ServeFault.TheVariants as fault
use Rattle.amqp_serve.specs.declared.steps.Course.{Course}
use Rattle.amqp_serve.specs.declared.steps.Done.{Done}
use Rattle.amqp_serve.specs.declared.steps.Receipt.TheVariants as receipt
use Rattle.amqp_serve.specs.declared.steps.Stepped.{Stepped}
use Rattle.amqp_serve.specs.Deeds.{nothing_topped}
use Rattle.amqp_serve.specs.Supplied.{IsRight}

-- the endpoint, and how the server is
pub record ServerState : Type 0 where
  pub endpoint : EndpointState
  pub status : Status

-- it hears what comes
abbrev pub hears : Status → Bool
hears status.Serving = true
hears status.Starved = true
hears status.Ended = false
hears (status.Lost x) = false

-- it takes no byte, whatever the peer sends
abbrev pub is_over : ServerState → Bool
is_over m = if hears m.status then is_dead m.endpoint.connection.phase else true

-- What waits to be written. After a loss nothing is handed out, since the record of an answer may be missing.
abbrev pub waiting_by : Status → List ℕ → List ℕ
waiting_by status.Serving unsent = unsent
waiting_by status.Starved unsent = unsent
waiting_by status.Ended unsent = unsent
waiting_by (status.Lost x) unsent = []

abbrev pub waiting : ServerState → List ℕ
waiting m = waiting_by m.status m.endpoint.unsent

-- as long as it hears no answer waits, and what the course knows is right
pub record IsAtRest (s : EndpointState) (course : Course) (status : Status) : Type 0 where
  pub sent : hears status ≡ true → s.unsent ≡ []
  pub right : IsRight course s.connection

-- its status after a step with this result
abbrev pub status_after : Result Done ServeFault → Status
status_after (Ok d) = status.Serving
status_after (Err fault.Read) = status.Lost fault.Read
status_after (Err fault.Write) = status.Lost fault.Write
status_after (Err fault.Sink) = status.Lost fault.Sink
status_after (Err fault.NoMemory) = status.Starved

-- the fault of a step at which the writer or the sink failed
abbrev pub lost_by : Result Done ServeFault → Option ServeFault
lost_by (Ok d) = None
lost_by (Err fault.Read) = None
lost_by (Err fault.Write) = Some fault.Write
lost_by (Err fault.Sink) = Some fault.Sink
lost_by (Err fault.NoMemory) = None

-- Refusals. -----------------------------------------------------------------------------------------------------------

-- the answer to a step that is not made
abbrev pub refused_step : Status → Option Stepped
refused_step status.Serving = None
refused_step status.Starved = None
refused_step status.Ended = Some (record { used = 0; told = outcome.Dead; done = Ok (record { receipt = receipt.Nothing; topped = nothing_topped }) })
refused_step (status.Lost x) = Some (record { used = 0; told = outcome.More; done = Err x })

-- the refusal of a connection that is not open
abbrev pub not_open : Option CallFault → Option ServerFault
not_open None = None
not_open (Some f) = Some refused.NotOpen

-- why it refuses a heartbeat, and to be closed
abbrev pub open_fault : ServerState → Option ServerFault
open_fault m = if hears m.status then not_open (open_call_fault m.endpoint.connection []) else Some refused.NotOpen

-- why it refuses to end its input
abbrev pub finish_fault : Status → Option ServerFault
finish_fault status.Serving = None
finish_fault status.Starved = Some refused.Starved
finish_fault status.Ended = Some refused.Over
finish_fault (status.Lost x) = Some refused.Over

-- What a call does. ---------------------------------------------------------------------------------------------------

-- it is the same, except bytes of its buffer that do not count
pub record IsSame (old new : ServerState) : Type 0 where
  pub endpoint : IsKept old.endpoint new.endpoint
  pub status : new.status ≡ old.status

-- its input ended so
pub record IsFinishedSo (old new : ServerState) (how : End) : Type 0 where
  pub was : finish_fault old.status ≡ None
  pub end : how ≡ end_of old.endpoint
  pub endpoint : IsFinished old.endpoint new.endpoint
  pub status : new.status ≡ status.Ended

-- this side closed it, and its close waits
pub record IsClosed (old new : ServerState) : Type 0 where
  pub was : open_fault old ≡ None
  pub endpoint : IsWritten old.endpoint new.endpoint event.CloseAsked (joined close_call_spoken)
  pub status : new.status ≡ status.Ended

-- the first `n` bytes that waited were written
pub record IsSent (old new : ServerState) (n : ℕ) : Type 0 where
  pub bound : n ≤ length (waiting old)
  pub endpoint : new.endpoint ≡ record old.endpoint { unsent = drop n old.endpoint.unsent }
  pub status : new.status ≡ old.status
