-- What the calls of an endpoint with one link are on the message level, and the frames that they write. [2.5.6, 2.6.7, 2.6.12]
use Rattle.std.specs.Prelude.{◌≡◌, ℕ, Bool, true, false, if◌then◌else◌, List, [], ◌∷◌, ◌++◌, None}
use Rattle.amqp_perform.specs.declared.outcome.Outcome.{Outcome}
use Rattle.amqp_perform.specs.Said.{Said}
use Rattle.amqp_session.specs.Calls as call
use Rattle.amqp_session.specs.Frames.{flow_said, link_flow_said, disposition_said}
use Rattle.amqp_session.specs.Sessions.{SessionEvent}
use Rattle.amqp_endpoint.specs.Calls.{call_fault, call_event, call_spoken}
use Rattle.amqp_endpoint.specs.Connections.{ConnectionState, InSession, connection_after, slot_at}
use Rattle.amqp_endpoint.specs.Replies.{on_channel}
use Rattle.amqp_endpoint.specs.Runs.{Handed, HandedUp, accepted_answer}
use Rattle.amqp_pair.specs.Stands.{Stands}
use Rattle.amqp_pair.specs.World.{World, Flow, Turn, Grant, Widen, Drain, Take, Settle, happens, flow_of, Plain, Inv}

-- the frame of a flow
abbrev pub flow_speaks : Flow → Said
flow_speaks f = if f.of_link then link_flow_said f.next f.window 0 f.count f.credit f.drain else flow_said f.next f.window

-- An accepted call goes on with the session, leaves the connection as the message level says, and writes these frames.
pub record IsCalled (s : ConnectionState) (c : call.Call) (w : World) (said : List Said) : Type 0 where
  pub event : SessionEvent
  pub is : call_event s 0 c ≡ InSession 0 event
  pub stands : Stands (connection_after s (InSession 0 event)) w
  pub spoken : call_spoken s 0 c ≡ on_channel 0 said

-- an accepted call that writes a flow
pub record IsFlowCalled (s : ConnectionState) (c : call.Call) (w : World) (turn : Turn) (of_link : Bool) : Type 0 where
  pub called : IsCalled s c (happens w turn) (flow_speaks (flow_of (happens w turn) of_link) ∷ [])
  pub on_way : (happens w turn).to_sender ≡ w.to_sender ++ flow_of (happens w turn) of_link ∷ []

abbrev pub GrantLaw : Type 0
GrantLaw = (s : ConnectionState) (w : World) (x : Plain) (unsent : List ℕ) (n : ℕ) → Stands s w → Inv w x → call_fault s unsent 0 (call.Grant 0 n) ≡ None → IsFlowCalled s (call.Grant 0 n) w (Grant n) true

abbrev pub WidenLaw : Type 0
WidenLaw = (s : ConnectionState) (w : World) (x : Plain) (unsent : List ℕ) (n : ℕ) → Stands s w → Inv w x → call_fault s unsent 0 (call.Widen n) ≡ None → IsFlowCalled s (call.Widen n) w (Widen n) false

abbrev pub DrainLaw : Type 0
DrainLaw = (s : ConnectionState) (w : World) (x : Plain) (unsent : List ℕ) → Stands s w → Inv w x → call_fault s unsent 0 (call.Drain 0) ≡ None → IsFlowCalled s (call.Drain 0) w Drain true

-- a take writes nothing, and hands up what the message level gives
pub record IsTakeCalled (s : ConnectionState) (w : World) : Type 0 where
  pub called : IsCalled s (call.Take 0) (happens w Take) []
  pub handed : Handed
  pub answer : accepted_answer (slot_at s 0) (call.Take 0) ≡ HandedUp handed
  pub given : (happens w Take).given ≡ w.given ++ handed.message ∷ []

abbrev pub TakeLaw : Type 0
TakeLaw = (s : ConnectionState) (w : World) (x : Plain) (unsent : List ℕ) → Stands s w → Inv w x → call_fault s unsent 0 (call.Take 0) ≡ None → IsTakeCalled s w

-- a settlement writes its disposition
pub record IsSettleCalled (s : ConnectionState) (w : World) (id : ℕ) (outcome : Outcome) : Type 0 where
  pub settled : Bool
  pub called : IsCalled s (call.Settle id outcome) (happens w (Settle id)) (disposition_said id id settled outcome ∷ [])

abbrev pub SettleLaw : Type 0
SettleLaw = (s : ConnectionState) (w : World) (x : Plain) (unsent : List ℕ) (id : ℕ) (outcome : Outcome) → Stands s w → Inv w x → call_fault s unsent 0 (call.Settle id outcome) ≡ None → IsSettleCalled s w id outcome
