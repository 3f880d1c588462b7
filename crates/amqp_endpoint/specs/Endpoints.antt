-- What always holds for an endpoint, what is shown of it, and which call and answer of `specs/Runs.antt` a call and an answer of the code are.
use Rattle.std.specs.Prelude.{◌≡◌, ℕ, ◌≤◌, true, false, List, [], Option, None, Result, Ok, Err}
use Rattle.amqp_frame.specs.Splits.{SplitterState, Waits, IsHeld, IsOver}
use Rattle.amqp_frame.specs.Units.{StreamUnit}
use Rattle.amqp_frame.specs.declared.units.Stage.TheVariants as due
use Rattle.amqp_link.specs.declared.link.Taken.{Taken}
use Rattle.amqp_reason.specs.Reasons.{reason_of}
use Rattle.amqp_session.specs.declared.slot.Slot.{Slot}
use Rattle.amqp_session.specs.declared.slot.Slot.TheVariants.{Free, Live, Waits as Awaits}
use Rattle.amqp_session.specs.declared.view.LinkView.{LinkView}
use Rattle.amqp_session.specs.Calls.{Widen, Grant, Drain, Take, Settle, SettleRange, Detach, Refuse, SettleWith, SettleRangeWith}
use Rattle.amqp_session.specs.Sessions as session
use Rattle.amqp_session.specs.Sessions.{SessionState}
use Rattle.amqp_session.specs.Slots.{IsViewAt}
use Rattle.amqp_endpoint.specs.declared.call.Answer as given
use Rattle.amqp_endpoint.specs.declared.call.Answer.TheVariants as answer
use Rattle.amqp_endpoint.specs.declared.call.Call as asked
use Rattle.amqp_endpoint.specs.declared.call.Call.TheVariants as call
use Rattle.amqp_endpoint.specs.declared.endpoint.Acted.{Acted}
use Rattle.amqp_endpoint.specs.declared.endpoint.Acted.TheVariants as acted
use Rattle.amqp_endpoint.specs.declared.fault.CallFault.{CallFault}
use Rattle.amqp_endpoint.specs.Acting.{IsDone}
use Rattle.amqp_endpoint.specs.Configs.{Configured}
use Rattle.amqp_endpoint.specs.Connections.{ConnectionState, slot_at, is_open, is_dead}
use Rattle.amqp_endpoint.specs.Lines.{line_of, may_grow_on}
use Rattle.amqp_endpoint.specs.Runs.{Call, Feed, InSession, Close, CloseWith, Heartbeat, Output, Held, Finish, Answer, Fed, Accepted, Dropped, Named, Handed, HandedUp, Refused, MovedOut, Holds, Ended, Run, IsStart}
use Rattle.amqp_endpoint.specs.Steps.{EndpointState, room_for}

-- What always holds. --------------------------------------------------------------------------------------------------

-- before the header nothing was written, and no session has begun
pub record IsFresh (unsent : List ℕ) (s : ConnectionState) : Type 0 where
  pub none : unsent ≡ []
  pub shut : is_open s.phase ≡ false
  pub free : (channel : ℕ) → slot_at s channel ≡ Free

pub record IsEndpoint (input : SplitterState) (unsent : List ℕ) (s : ConnectionState) : Type 0 where
  -- frames are accepted up to the configured length
  pub limit : input.limit ≡ s.config.max_frame
  pub least : 8 ≤ input.limit
  pub most : input.limit ≤ 1048576
  pub held : IsHeld input.limit input.stage input.filled
  -- the connection is over once a unit that ends the stream was acted upon
  pub over : IsOver input.stage → is_dead s.phase ≡ true
  pub fresh : input.stage ≡ due.Header → IsFresh unsent s

-- What becomes of the unit that waits. --------------------------------------------------------------------------------

-- neither the connection nor its output has changed
pub record IsSame (old new : ConnectionState) (before after : List ℕ) : Type 0 where
  pub connection : new ≡ old
  pub unsent : after ≡ before

abbrev pub HasActed : SplitterState → ConnectionState → ConnectionState → List ℕ → List ℕ → Acted → Type 0
HasActed input old new before after (acted.Done told) = (u : StreamUnit) × Waits input u × (room_for before u ≡ true) × IsDone old new before after (line_of old u) told
HasActed input old new before after acted.Nothing = ((u : StreamUnit) → Waits input u → ⊥) × IsSame old new before after
HasActed input old new before after acted.Blocked = (u : StreamUnit) × Waits input u × (room_for before u ≡ false) × IsSame old new before after
HasActed input old new before after acted.NoMemory = (u : StreamUnit) × Waits input u × (room_for before u ≡ true) × (may_grow_on (line_of old u) ≡ true) × IsSame old new before after

-- What is shown. ------------------------------------------------------------------------------------------------------

-- a view of the link at a handle of the session on a channel; None if no session is live there
abbrev pub IsLinkAt : Slot SessionState → ℕ → Option LinkView → Type 0
IsLinkAt Free handle view = view ≡ None
IsLinkAt (Live s) handle view = IsViewAt (session.slot_at s handle) view
IsLinkAt Awaits handle view = view ≡ None

-- Calls and answers in hand. ------------------------------------------------------------------------------------------

abbrev pub call_of : asked.Call → Call
call_of (call.Feed piece) = Feed piece.now
call_of (call.Grant channel handle n) = InSession channel (Grant handle n)
call_of (call.Widen channel n) = InSession channel (Widen n)
call_of (call.Drain channel handle) = InSession channel (Drain handle)
call_of (call.Take channel handle) = InSession channel (Take handle)
call_of (call.Settle channel id outcome) = InSession channel (Settle id outcome)
call_of (call.SettleRange channel first last outcome) = InSession channel (SettleRange first last outcome)
call_of (call.Detach channel handle) = InSession channel (Detach handle)
call_of (call.Refuse channel handle r) = InSession channel (Refuse handle (reason_of r))
call_of (call.SettleWith channel id r) = InSession channel (SettleWith id (reason_of r))
call_of (call.SettleRangeWith channel first last r) = InSession channel (SettleRangeWith first last (reason_of r))
call_of call.Close = Close
call_of (call.CloseWith r) = CloseWith (reason_of r)
call_of call.Heartbeat = Heartbeat
call_of (call.Output room) = Output room
call_of call.Held = Held
call_of call.Finish = Finish

-- what was handed up
abbrev pub handed_in : {A : Type 0} → Taken A → Handed
handed_in taken = record {
  delivery_id = taken.delivery_id;
  delivery_tag = taken.delivery_tag;
  message_format = taken.message_format;
  settled = taken.settled;
  message = taken.message;
}

abbrev pub answer_of : {A : Type 0} → given.Answer A → Answer
answer_of (answer.Fed fed) = Fed fed.used fed.outcome
answer_of answer.Accepted = Accepted
answer_of (answer.Dropped n) = Dropped n
answer_of (answer.Named n) = Named n
answer_of (answer.HandedUp taken) = HandedUp (handed_in taken)
answer_of (answer.Refused fault) = Refused fault
answer_of (answer.MovedOut bytes) = MovedOut bytes.items
answer_of (answer.Holds n) = Holds n
answer_of (answer.Ended end) = Ended end

-- The answer to a call that returns nothing, to one that returns how many ready deliveries were dropped, to one that returns how many it named, and to
-- a take.
abbrev pub accepted_by : {X : Type 0} → Result X CallFault → Answer
accepted_by (Ok x) = Accepted
accepted_by (Err fault) = Refused fault

abbrev pub dropped_by : Result ℕ CallFault → Answer
dropped_by (Ok n) = Dropped n
dropped_by (Err fault) = Refused fault

abbrev pub named_by : Result ℕ CallFault → Answer
named_by (Ok n) = Named n
named_by (Err fault) = Refused fault

abbrev pub handed_by : {A : Type 0} → Result (Taken A) CallFault → Answer
handed_by (Ok taken) = HandedUp (handed_in taken)
handed_by (Err fault) = Refused fault

-- These calls with these answers lead a new endpoint to this state.
pub record IsReplay (config : Configured) (calls : List Call) (answers : List Answer) (last : EndpointState) : Type 0 where
  pub start : EndpointState
  pub new : IsStart config start
  pub run : Run start calls answers last
