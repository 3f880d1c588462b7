-- What a connection does with a call of its application: why it is refused, or which event it is, and what it writes.
use Rattle.std.specs.Prelude.{ℕ, ◌+◌, Bool, true, false, not, ◌||◌, nat_lt, if◌then◌else◌, List, [], ◌∷◌, length, Option, Some, None}
use Rattle.amqp_reason.specs.Reasons.{Reason, is_valid, error_span}
use Rattle.amqp_session.specs.declared.fault.CallFault as session_fault
use Rattle.amqp_session.specs.declared.fault.CallFault.TheVariants as of_session
use Rattle.amqp_session.specs.declared.slot.Slot.{Slot}
use Rattle.amqp_session.specs.declared.slot.Slot.TheVariants.{Free, Live, Waits}
use Rattle.amqp_session.specs.Calls as session
use Rattle.amqp_session.specs.Calls.{Widen, Grant, Drain, Take, Settle, SettleRange, Detach}
use Rattle.amqp_session.specs.Faults.{or_else, where_so}
use Rattle.amqp_session.specs.Sessions.{SessionState}
use Rattle.amqp_endpoint.specs.declared.fault.CallFault.{CallFault}
use Rattle.amqp_endpoint.specs.declared.fault.CallFault.TheVariants as refused
use Rattle.amqp_endpoint.specs.Connections as event
use Rattle.amqp_endpoint.specs.Connections.{ConnectionState, ConnectionEvent, slot_at, is_unopened, is_closing, is_dead}
use Rattle.amqp_endpoint.specs.Replies.{Spoken, on_channel, aloud, close_said}

-- the most bytes that the output holds, and how many have to be free before something is written
abbrev pub output_size : ℕ
output_size = 8192

abbrev pub reply_room : ℕ
reply_room = 2560

-- the output has room for what is written next
abbrev pub has_room : List ℕ → Bool
has_room unsent = not (nat_lt output_size (length unsent + reply_room))

-- Refusals, in their order. -------------------------------------------------------------------------------------------

-- the connection is over, or this side has closed it
abbrev pub dead_fault : ConnectionState → Option CallFault
dead_fault s = where_so (is_dead s.phase || is_closing s.phase) refused.Dead

abbrev pub unopened_fault : ConnectionState → Option CallFault
unopened_fault s = where_so (is_unopened s.phase) refused.NotOpen

abbrev pub full_fault : List ℕ → Option CallFault
full_fault unsent = where_so (not (has_room unsent)) refused.Full

abbrev pub fault_of_session : session_fault.CallFault → CallFault
fault_of_session of_session.NoLink = refused.NoLink
fault_of_session of_session.NoDelivery = refused.NoDelivery
fault_of_session of_session.NotTaken = refused.NotTaken
fault_of_session of_session.AlreadyTold = refused.AlreadyTold
fault_of_session of_session.MixedModes = refused.MixedModes
fault_of_session of_session.NothingReady = refused.NothingReady
fault_of_session of_session.TooMuchCredit = refused.TooMuchCredit
fault_of_session of_session.WindowTooWide = refused.WindowTooWide
fault_of_session of_session.BadError = refused.BadError

abbrev pub of_option : Option session_fault.CallFault → Option CallFault
of_option None = None
of_option (Some fault) = Some (fault_of_session fault)

-- the fault of a call for the session on a channel; NoSession if none is live there
abbrev pub at_session : Slot SessionState → session.Call → Option CallFault
at_session Free call = Some refused.NoSession
at_session (Live s) call = of_option (session.call_fault s call)
at_session Waits call = Some refused.NoSession

-- a take writes nothing, so it is never refused for lack of room
abbrev pub writes : session.Call → Bool
writes (Take handle) = false
writes _ = true

abbrev pub call_fault : ConnectionState → List ℕ → ℕ → session.Call → Option CallFault
call_fault s unsent channel call =
    or_else (dead_fault s) (or_else (at_session (slot_at s channel) call) (if writes call then full_fault unsent else None))

-- a close and a heartbeat need an open connection
abbrev pub open_call_fault : ConnectionState → List ℕ → Option CallFault
open_call_fault s unsent = or_else (dead_fault s) (or_else (unopened_fault s) (full_fault unsent))

-- so does a close with an error, whose words are tested last but for room [2.8.14]
abbrev pub reason_fault : Reason → Option CallFault
reason_fault r = where_so (not (is_valid r)) refused.BadError

abbrev pub close_with_fault : ConnectionState → List ℕ → Reason → Option CallFault
close_with_fault s unsent r = or_else (dead_fault s) (or_else (unopened_fault s) (or_else (reason_fault r) (full_fault unsent)))

-- What an accepted call is, and writes. -------------------------------------------------------------------------------

abbrev pub slot_event : ℕ → Slot SessionState → session.Call → ConnectionEvent
slot_event channel Free call = event.Ignored  -- refused
slot_event channel (Live s) call = event.InSession channel (session.call_event s call)
slot_event channel Waits call = event.Ignored

abbrev pub call_event : ConnectionState → ℕ → session.Call → ConnectionEvent
call_event s channel call = slot_event channel (slot_at s channel) call

abbrev pub slot_spoken : ℕ → Slot SessionState → session.Call → List Spoken
slot_spoken channel Free call = []
slot_spoken channel (Live s) call = on_channel channel (session.call_answer s call)
slot_spoken channel Waits call = []

abbrev pub call_spoken : ConnectionState → ℕ → session.Call → List Spoken
call_spoken s channel call = slot_spoken channel (slot_at s channel) call

abbrev pub close_call_spoken : List Spoken
close_call_spoken = aloud (close_said []) ∷ []

-- a close with an error [2.7.9]
abbrev pub close_with_spoken : Reason → List Spoken
close_with_spoken r = aloud (close_said (error_span r)) ∷ []

-- an empty frame on channel 0 [2.4.5]
abbrev pub heartbeat : List ℕ
heartbeat = 0 ∷ 0 ∷ 0 ∷ 8 ∷ 2 ∷ 0 ∷ 0 ∷ 0 ∷ []
