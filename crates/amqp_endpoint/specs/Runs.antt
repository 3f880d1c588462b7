-- A whole run of an endpoint: its calls, its answers, and what happened before each of them (AMQP 1.0, part 2, sections 2.2 to
-- 2.7).
use Rattle.std.specs.Prelude.{◌≡◌, ℕ, Bool, false, if◌then◌else◌, nat_eq, nat_lt, min, List, [], ◌∷◌, ◌++◌, length, take, drop, Option, Some, None}
use Rattle.amqp_frame.specs.Splits.{IsUnchanged}
use Rattle.amqp_frame.specs.Units.{StreamUnit}
use Rattle.amqp_frame.specs.declared.units.Stage.TheVariants as due
use Rattle.amqp_link.specs.Links.{Delivery, first_ready}
use Rattle.amqp_reason.specs.Reasons.{Reason}
use Rattle.amqp_session.specs.declared.slot.Slot.{Slot}
use Rattle.amqp_session.specs.declared.slot.Slot.TheVariants.{Free, Live, Waits as Awaits}
use Rattle.amqp_session.specs.Calls as session
use Rattle.amqp_session.specs.Calls.{Widen, Grant, Drain, Take, Settle, SettleRange, Detach, Refuse, SettleWith, SettleRangeWith}
use Rattle.amqp_session.specs.Laws.{named_total}
use Rattle.amqp_session.specs.Sessions as of_session
use Rattle.amqp_session.specs.Sessions.{LiveLink, SessionState, slot_ready}
use Rattle.amqp_endpoint.specs.declared.event.End.{End}
use Rattle.amqp_endpoint.specs.declared.event.End.TheVariants as ended
use Rattle.amqp_endpoint.specs.declared.event.Outcome.{Outcome}
use Rattle.amqp_endpoint.specs.declared.fault.CallFault.{CallFault}
use Rattle.amqp_endpoint.specs.Calls.{call_fault, call_event, call_spoken, open_call_fault, close_with_fault, close_call_spoken, close_with_spoken, heartbeat}
use Rattle.amqp_endpoint.specs.Configs.{Configured}
use Rattle.amqp_endpoint.specs.Connections as event
use Rattle.amqp_endpoint.specs.Connections.{ConnectionState, ConnectionEvent, connection_begins, connection_after, connection_ready, slot_at}
use Rattle.amqp_endpoint.specs.Held.{held}
use Rattle.amqp_endpoint.specs.Histories.{state_of}
use Rattle.amqp_endpoint.specs.Lines.{line_of, event_on}
use Rattle.amqp_endpoint.specs.Replies.{joined, reply_on}
use Rattle.amqp_endpoint.specs.Steps.{EndpointState, IsKept, IsFed}

-- Calls and answers. --------------------------------------------------------------------------------------------------

pub data Call : Type 0 where
  Feed : List ℕ → Call  -- a piece of the peer's bytes
  InSession : ℕ → session.Call → Call  -- a call for the session on this channel
  Close : Call
  CloseWith : Reason → Call  -- a close with an error
  Heartbeat : Call
  Output : ℕ → Call  -- at most this many bytes are moved out
  Held : Call
  Finish : Call  -- the input ended

-- what a take hands up of a delivery [2.7.5]
pub record Handed : Type 0 where
  pub delivery_id : ℕ
  pub delivery_tag : List ℕ
  pub message_format : ℕ
  pub settled : Bool  -- the sender has settled it
  pub message : List ℕ

abbrev pub handed_of : Delivery → Handed
handed_of d = record { delivery_id = d.delivery_id; delivery_tag = d.delivery_tag; message_format = d.message_format; settled = d.settled; message = d.message }

pub data Answer : Type 0 where
  Fed : ℕ → Outcome → Answer  -- this many bytes were taken, with this outcome
  Accepted : Answer
  Dropped : ℕ → Answer  -- this many ready deliveries were dropped
  Named : ℕ → Answer  -- this many open deliveries were named
  HandedUp : Handed → Answer
  Refused : CallFault → Answer
  MovedOut : List ℕ → Answer
  Holds : ℕ → Answer
  Ended : End → Answer

-- what a take hands up
abbrev pub handed : Option Delivery → Answer
handed None = Accepted  -- refused
handed (Some d) = HandedUp (handed_of d)

abbrev pub link_handed : Slot LiveLink → Answer
link_handed Free = Accepted  -- refused
link_handed (Live l) = handed (first_ready l.link)
link_handed Awaits = Accepted

abbrev pub session_answer : SessionState → session.Call → Answer
session_answer s (Widen n) = Accepted
session_answer s (Grant handle n) = Accepted
session_answer s (Drain handle) = Accepted
session_answer s (Take handle) = link_handed (of_session.slot_at s handle)
session_answer s (Settle id outcome) = Accepted
session_answer s (SettleRange first last outcome) = Named (named_total first last s)
session_answer s (Detach handle) = Dropped (slot_ready (of_session.slot_at s handle))
session_answer s (Refuse handle r) = Dropped (slot_ready (of_session.slot_at s handle))
session_answer s (SettleWith id r) = Accepted
session_answer s (SettleRangeWith first last r) = Named (named_total first last s)

abbrev pub accepted_answer : Slot SessionState → session.Call → Answer
accepted_answer Free c = Accepted  -- refused
accepted_answer (Live s) c = session_answer s c
accepted_answer Awaits c = Accepted

-- What a call does. ---------------------------------------------------------------------------------------------------

-- an event happened to the connection, and these bytes were written
pub record IsWritten (old new : EndpointState) (e : ConnectionEvent) (bytes : List ℕ) : Type 0 where
  pub input : IsUnchanged old.input new.input
  pub unsent : new.unsent ≡ old.unsent ++ bytes
  pub connection : new.connection ≡ connection_after old.connection e

-- an empty frame was written, and nothing else has changed
pub record IsBeat (old new : EndpointState) : Type 0 where
  pub input : IsUnchanged old.input new.input
  pub unsent : new.unsent ≡ old.unsent ++ heartbeat
  pub connection : new.connection ≡ old.connection

-- the first bytes that wait were moved out
pub record IsMoved (old new : EndpointState) (room : ℕ) (bytes : List ℕ) : Type 0 where
  pub input : IsUnchanged old.input new.input
  pub moved : bytes ≡ take room old.unsent
  pub unsent : new.unsent ≡ drop room old.unsent
  pub connection : new.connection ≡ old.connection

-- how the connection stood at the end of its input [2.4.6]
abbrev pub end_between : ℕ → End
end_between n = if nat_eq n 0 then ended.Between else ended.Inside n

abbrev pub end_of : EndpointState → End
end_of s = if s.connection.failed then ended.Failed else (if s.connection.closed then ended.Closed else end_between (length s.input.filled))

-- the frame buffer is empty, sessions and links are gone, and the output is unchanged
pub record IsFinished (old new : EndpointState) : Type 0 where
  pub limit : new.input.limit ≡ old.input.limit
  pub filled : new.input.filled ≡ []
  pub unsent : new.unsent ≡ old.unsent
  pub connection : new.connection ≡ connection_after old.connection event.Finished

abbrev pub CallDone : EndpointState → EndpointState → ℕ → session.Call → Answer → Type 0
CallDone old new channel c (Refused fault) = (call_fault old.connection old.unsent channel c ≡ Some fault) × IsKept old new
CallDone old new channel c answer =
    (call_fault old.connection old.unsent channel c ≡ None) × IsWritten old new (call_event old.connection channel c) (joined (call_spoken old.connection channel c))
    × (answer ≡ accepted_answer (slot_at old.connection channel) c)

abbrev pub CloseDone : EndpointState → EndpointState → Answer → Type 0
CloseDone old new (Refused fault) = (open_call_fault old.connection old.unsent ≡ Some fault) × IsKept old new
CloseDone old new answer = (open_call_fault old.connection old.unsent ≡ None) × IsWritten old new event.CloseAsked (joined close_call_spoken) × (answer ≡ Dropped (connection_ready old.connection))

abbrev pub CloseWithDone : EndpointState → EndpointState → Reason → Answer → Type 0
CloseWithDone old new r (Refused fault) = (close_with_fault old.connection old.unsent r ≡ Some fault) × IsKept old new
CloseWithDone old new r answer =
    (close_with_fault old.connection old.unsent r ≡ None) × IsWritten old new event.CloseAsked (joined (close_with_spoken r)) × (answer ≡ Dropped (connection_ready old.connection))

abbrev pub BeatDone : EndpointState → EndpointState → Answer → Type 0
BeatDone old new (Refused fault) = (open_call_fault old.connection old.unsent ≡ Some fault) × IsKept old new
BeatDone old new answer = (open_call_fault old.connection old.unsent ≡ None) × IsBeat old new × (answer ≡ Accepted)

-- One call with its answer.
abbrev pub Does : EndpointState → EndpointState → Call → Answer → Type 0
Does old new (Feed piece) (Fed used outcome) = IsFed old new piece used outcome
Does old new (InSession channel c) answer = CallDone old new channel c answer
Does old new Close answer = CloseDone old new answer
Does old new (CloseWith r) answer = CloseWithDone old new r answer
Does old new Heartbeat answer = BeatDone old new answer
Does old new (Output room) (MovedOut bytes) = IsMoved old new room bytes
Does old new Held (Holds n) = IsKept old new × (n ≡ held old)
Does old new Finish (Ended end) = IsFinished old new × (end ≡ end_of old)
Does old new call answer = ⊥

-- Whether a call itself may need memory: only for bytes that are moved out. A feed that lacks memory says so in its outcome.
abbrev pub may_want : EndpointState → Call → Bool
may_want s (Output room) = nat_lt 0 (min room (length s.unsent))
may_want s call = false

-- Calls and answers, one by one.
abbrev pub Run : EndpointState → List Call → List Answer → EndpointState → Type 0
Run s [] [] last = last ≡ s
Run s [] (answer ∷ answers) last = ⊥
Run s (call ∷ calls) [] last = ⊥
Run s (call ∷ calls) (answer ∷ answers) last = (next : EndpointState) × Does s next call answer × Run next calls answers last

-- an endpoint at its start
pub record IsStart (config : Configured) (s : EndpointState) : Type 0 where
  pub limit : s.input.limit ≡ config.max_frame
  pub stage : s.input.stage ≡ due.Header
  pub filled : s.input.filled ≡ []
  pub unsent : s.unsent ≡ []
  pub connection : s.connection ≡ connection_begins config

-- The history. --------------------------------------------------------------------------------------------------------

-- What happened: each unit that was acted upon, and each call that was accepted and changed something.
pub data Happened : Type 0 where
  Acted : StreamUnit → Happened  -- this unit was acted upon
  Called : ℕ → session.Call → Happened  -- this call for the session on this channel was accepted
  Closed : Happened  -- a close of the application was accepted
  ClosedWith : Reason → Happened  -- so was one with an error
  Beat : Happened  -- a heartbeat was accepted
  Over : Happened  -- finish was called

-- the events of the connection that it results in, the newest first
abbrev pub event_of : ConnectionState → Happened → List ConnectionEvent
event_of s (Acted u) = event_on s (line_of s u) ∷ []
event_of s (Called channel c) = call_event s channel c ∷ []
event_of s Closed = event.CloseAsked ∷ []
event_of s (ClosedWith r) = event.CloseAsked ∷ []
event_of s Beat = []
event_of s Over = event.Finished ∷ []

-- the bytes that it writes
abbrev pub written_of : ConnectionState → Happened → List ℕ
written_of s (Acted u) = reply_on s (line_of s u)
written_of s (Called channel c) = joined (call_spoken s channel c)
written_of s Closed = joined close_call_spoken
written_of s (ClosedWith r) = joined (close_with_spoken r)
written_of s Beat = heartbeat
written_of s Over = []

-- the units of a history, oldest first
abbrev pub units_of : List Happened → List StreamUnit
units_of [] = []
units_of (Acted u ∷ h) = units_of h ++ u ∷ []
units_of (Called channel c ∷ h) = units_of h
units_of (Closed ∷ h) = units_of h
units_of (ClosedWith r ∷ h) = units_of h
units_of (Beat ∷ h) = units_of h
units_of (Over ∷ h) = units_of h

-- all events of the connection, each by the state that the history before it results in
abbrev pub events : Configured → List Happened → List ConnectionEvent
events config [] = []
events config (x ∷ h) = event_of (state_of config (events config h)) x ++ events config h

-- all bytes that were written
abbrev pub written : Configured → List Happened → List ℕ
written config [] = []
written config (x ∷ h) = written config h ++ written_of (state_of config (events config h)) x
