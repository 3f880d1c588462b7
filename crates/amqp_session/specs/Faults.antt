-- What a session does with a frame (AMQP 1.0, part 2, sections 2.5 to 2.7): its first fault, or the event that it is, what is reported, and what is said in answer.
use Rattle.std.specs.Prelude.{◌≡◌, ℕ, ◌+◌, Bool, true, false, not, ◌&&◌, ◌||◌, if◌then◌else◌, nat_eq, nat_lt, List, [], ◌∷◌, length, sum_by, Option, Some, None, is_none, unwrap_or}
use Rattle.amqp_perform.specs.declared.condition.Condition.{Condition}
use Rattle.amqp_perform.specs.declared.condition.Condition.TheVariants as condition
use Rattle.amqp_perform.specs.Performatives.{is_receiver}
use Rattle.amqp_link.specs.declared.transfer.LinkFault.{LinkFault}
use Rattle.amqp_link.specs.declared.transfer.LinkFault.TheVariants as link_fault
use Rattle.amqp_link.specs.declared.transfer.Step.{Step}
use Rattle.amqp_link.specs.declared.transfer.Step.TheVariants as step
use Rattle.amqp_link.specs.Links.{Sent, LinkState, fault_of, step_of, is_beyond_credit, is_drained, newly_settled, open_set, may_grow}
use Rattle.amqp_session.specs.declared.fault.SessionFault.{SessionFault}
use Rattle.amqp_session.specs.declared.fault.SessionFault.TheVariants as fault
use Rattle.amqp_session.specs.declared.report.Report.{Report}
use Rattle.amqp_session.specs.declared.report.Report.TheVariants as report
use Rattle.amqp_session.specs.declared.slot.Slot.{Slot}
use Rattle.amqp_session.specs.declared.slot.Slot.TheVariants.{Free, Live, Waits}
use Rattle.amqp_session.specs.declared.terms.SessionTerms.{SessionTerms}
use Rattle.amqp_perform.specs.Said.{Said, said_frame}
use Rattle.amqp_session.specs.Frames.{Attaching, Flowing, Disposing, Frame, Attaches, Flows, Transfers, Disposes, Detaches, is_coordinator, attach_said, refusal_said, detach_said, failure_said}
use Rattle.amqp_session.specs.Frames.{flow_said, link_flow_said}
use Rattle.amqp_session.specs.Sessions.{Attached, LiveLink, SessionState, slot_at, is_reused, slot_ready, SessionEvent, session_after}
use Rattle.amqp_session.specs.Sessions as event

-- The first fault that ends the session. -----------------------------------------------------------------------------------

abbrev pub is_free : Slot LiveLink → Bool
is_free Free = true
is_free (Live l) = false
is_free Waits = false

-- The first of these two that is there.
abbrev pub or_else : {A : Type 0} → Option A → Option A → Option A
or_else None later = later
or_else (Some a) later = Some a

abbrev pub where_so : {A : Type 0} → Bool → A → Option A
where_so b a = if b then Some a else None

-- A name above 255 bytes is amqp:resource-limit-exceeded, a handle in use amqp:session:handle-in-use, a sender without initial-delivery-count
-- amqp:invalid-field. [2.6.2, 2.7.3]
abbrev pub attach_fault : SessionState → Attaching → Option SessionFault
attach_fault s a =
    or_else (where_so (nat_lt 255 (length a.name)) fault.ResourceLimit)
    (or_else (where_so (not (is_free (slot_at s a.handle))) fault.HandleInUse) (where_so (not (is_receiver a.role) && is_none a.initial_delivery_count) fault.InvalidField))

-- a handle that is not in use: amqp:session:unattached-handle [2.6.2]
abbrev pub handle_fault : SessionState → ℕ → Option SessionFault
handle_fault s handle = where_so (is_free (slot_at s handle)) fault.UnattachedHandle

abbrev pub named_fault : SessionState → Option ℕ → Option SessionFault
named_fault s None = None
named_fault s (Some handle) = handle_fault s handle

-- A transfer needs a place of the window, which is checked before its handle: amqp:session:window-violation. [2.5.6]
abbrev pub session_fault : SessionState → Frame → Option SessionFault
session_fault s (Attaches a) = attach_fault s a
session_fault s (Flows f) = named_fault s f.handle
session_fault s (Transfers handle t) = or_else (where_so (nat_eq s.window 0) fault.WindowViolation) (handle_fault s handle)
session_fault s (Disposes d) = None
session_fault s (Detaches handle closed) = handle_fault s handle

-- The condition with which the session ends. A refusal of memory does not end it. [2.8.15, 2.8.17]
abbrev pub session_condition : SessionFault → Condition
session_condition fault.WindowViolation = condition.WindowViolation
session_condition fault.HandleInUse = condition.HandleInUse
session_condition fault.UnattachedHandle = condition.UnattachedHandle
session_condition fault.ResourceLimit = condition.ResourceLimitExceeded
session_condition fault.InvalidField = condition.InvalidField
session_condition fault.NoMemory = condition.Other

-- The first fault that ends a link. ----------------------------------------------------------------------------------------

-- Why an attach without fault is refused: this side would be the sender, or the coordinator of transactions (amqp:not-implemented); its ends are too long
-- (amqp:resource-limit-exceeded); the answer doesn't fit a frame of the peer (amqp:frame-size-too-small). [2.6.3, 2.7.1, 2.7.3]
abbrev pub refusal : SessionTerms → Attaching → Option Condition
refusal terms a =
    or_else (where_so (is_receiver a.role || is_coordinator a.target) condition.NotImplemented)
    (or_else (where_so (nat_lt 1024 (length a.source + length a.target)) condition.ResourceLimitExceeded)
    (where_so (nat_lt terms.max_frame_size (length (said_frame 0 (attach_said a.bounds.max_message_size a) []))) condition.FrameSizeTooSmall))

-- A transfer that resumes is the first fault (amqp:not-implemented). The next is one that begins a delivery with an open id, a duplicate (amqp:invalid-field); then come the
-- other faults of the link. [2.6.12, 2.7.5]
abbrev pub transfer_fault : SessionState → LinkState → Sent → Option LinkFault
transfer_fault s l t = if not t.resume && is_reused s l t then Some link_fault.InvalidField else fault_of l t

-- the condition with which the link ends [2.8.15, 2.8.18]
abbrev pub link_condition : LinkFault → Condition
link_condition link_fault.TransferLimit = condition.TransferLimitExceeded
link_condition link_fault.MessageSize = condition.MessageSizeExceeded
link_condition link_fault.InvalidField = condition.InvalidField
link_condition link_fault.NotImplemented = condition.NotImplemented
link_condition link_fault.NoMemory = condition.Other

-- The event that a frame without session fault is. -------------------------------------------------------------------------

-- what the link is attached with [2.7.3]
abbrev pub attached : SessionTerms → Attaching → Attached
attached terms a = record {
  name = a.name;
  source = a.source;
  target = a.target;
  terms = record { initial_delivery_count = unwrap_or a.initial_delivery_count 0; rcv_settle_mode = a.rcv_settle_mode; bounds = a.bounds };
}

abbrev pub attach_event : SessionTerms → Attaching → SessionEvent
attach_event terms a = if is_none (refusal terms a) then event.LinkAttached a.handle (attached terms a) else event.LinkRefused a.handle

abbrev pub transfer_event : SessionState → ℕ → Sent → Slot LiveLink → SessionEvent
transfer_event s handle t Free = event.Ignored  -- a session fault
transfer_event s handle t (Live l) = if is_none (transfer_fault s l.link t) then event.TransferCame handle t else event.TransferEnded handle
transfer_event s handle t Waits = event.TransferDropped handle

-- a delivery-count ahead by more than the credit ends the link: amqp:link:transfer-limit-exceeded [2.6.7]
abbrev pub flow_event : ℕ → Flowing → Slot LiveLink → SessionEvent
flow_event handle f Free = event.Ignored  -- a session fault
flow_event handle f (Live l) = if is_beyond_credit l.link.delivery_count l.link.credit f.delivery_count then event.LinkFlowEnded handle f.next_outgoing_id else event.LinkFlowCame handle f.next_outgoing_id
    f.delivery_count
flow_event handle f Waits = event.Ignored

-- Without a handle the fields of a link are ignored. [2.7.4]
abbrev pub named_event : SessionState → Flowing → Option ℕ → SessionEvent
named_event s f None = event.FlowCame f.next_outgoing_id
named_event s f (Some handle) = flow_event handle f (slot_at s handle)

-- the disposition is the sender's, and has settled true [2.7.6]
abbrev pub is_settling : Disposing → Bool
is_settling d = not (is_receiver d.role) && d.settled

-- an absent last is the first [2.7.6]
abbrev pub last_of : Disposing → ℕ
last_of d = unwrap_or d.last d.first

abbrev pub event_of : SessionState → Frame → SessionEvent
event_of s (Attaches a) = attach_event s.terms a
event_of s (Flows f) = named_event s f f.handle
event_of s (Transfers handle t) = transfer_event s handle t (slot_at s handle)
event_of s (Disposes d) = if is_settling d then event.PeerSettled d.first (last_of d) else event.Ignored
event_of s (Detaches handle closed) = event.PeerDetached handle

-- What is reported of it. ---------------------------------------------------------------------------------------------------

abbrev pub attach_report : ℕ → Option Condition → Report
attach_report handle None = report.Attached handle
attach_report handle (Some condition) = report.Failed handle condition 0

abbrev pub step_report : ℕ → Step → Report
step_report handle step.Unfinished = report.Unfinished handle
step_report handle step.Ready = report.Ready handle
step_report handle step.Aborted = report.Aborted handle

abbrev pub came_report : ℕ → LinkState → Sent → Option LinkFault → Report
came_report handle l t None = step_report handle (step_of t)
came_report handle l t (Some fault) = report.Failed handle (link_condition fault) (length l.ready)

abbrev pub transfer_report : SessionState → ℕ → Sent → Slot LiveLink → Report
transfer_report s handle t Free = report.Nothing
transfer_report s handle t (Live l) = came_report handle l.link t (transfer_fault s l.link t)
transfer_report s handle t Waits = report.Nothing

abbrev pub flow_report : ℕ → Flowing → Slot LiveLink → Report
flow_report handle f Free = report.Nothing
flow_report handle f (Live l) =
    if is_beyond_credit l.link.delivery_count l.link.credit f.delivery_count then report.Failed handle condition.TransferLimitExceeded (length l.link.ready)
    else (if is_drained l.link f.delivery_count then report.Drained handle else report.Nothing)
flow_report handle f Waits = report.Nothing

abbrev pub named_report : SessionState → Flowing → Option ℕ → Report
named_report s f None = report.Nothing
named_report s f (Some handle) = flow_report handle f (slot_at s handle)

-- how many open deliveries of a link a disposition settles [2.7.6]
abbrev pub slot_settled : ℕ → ℕ → Slot LiveLink → ℕ
slot_settled first last Free = 0
slot_settled first last (Live l) = newly_settled first last (open_set l.link)
slot_settled first last Waits = 0

-- how many open deliveries of the session a disposition settles
abbrev pub settled_count : SessionState → ℕ → ℕ → ℕ
settled_count s first last = sum_by (slot_settled first last) s.links

abbrev pub settled_report : ℕ → Report
settled_report count = if nat_eq count 0 then report.Nothing else report.Settled count

abbrev pub report_of : SessionState → Frame → Report
report_of s (Attaches a) = attach_report a.handle (refusal s.terms a)
report_of s (Flows f) = named_report s f f.handle
report_of s (Transfers handle t) = transfer_report s handle t (slot_at s handle)
report_of s (Disposes d) = if is_settling d then settled_report (settled_count s d.first (last_of d)) else report.Nothing
report_of s (Detaches handle closed) = report.Detached handle (slot_ready (slot_at s handle))

-- What is said in answer: nothing, one performative, or two for a link that is refused. -----------------------------------------

-- the flow of a session, and of one of its links [2.7.4]
abbrev pub session_flow : SessionState → Said
session_flow s = flow_said s.next_incoming_id s.window

abbrev pub slot_flow : SessionState → ℕ → Slot LiveLink → List Said
slot_flow s handle Free = []
slot_flow s handle (Live l) = link_flow_said s.next_incoming_id s.window handle l.link.delivery_count l.link.credit l.link.draining ∷ []
slot_flow s handle Waits = []

abbrev pub link_flow : SessionState → ℕ → List Said
link_flow s handle = slot_flow s handle (slot_at s handle)

abbrev pub attach_answer : SessionTerms → Attaching → Option Condition → List Said
attach_answer terms a None = attach_said a.bounds.max_message_size a ∷ []
attach_answer terms a (Some condition) = refusal_said a ∷ failure_said a.handle condition ∷ []

-- a link that ends with an error is detached with it
abbrev pub failure_answer : Report → List Said
failure_answer (report.Failed handle condition dropped) = failure_said handle condition ∷ []
failure_answer _ = []

-- The answer to an echo, stating what is so after the flow: of the link that it names, else of the session. A link that ended, or waits, has none. [2.7.4]
abbrev pub echo_answer : SessionState → Option ℕ → List Said
echo_answer after None = session_flow after ∷ []
echo_answer after (Some handle) = link_flow after handle

abbrev pub flow_answer : SessionState → Flowing → Report → List Said
flow_answer after f (report.Failed handle condition dropped) = failure_said handle condition ∷ []
flow_answer after f _ = if f.echo then echo_answer after f.handle else []

-- a detach is answered by one with the same closed, unless this side sent the first [2.6.4, 2.6.6]
abbrev pub detach_answer : ℕ → Bool → Slot LiveLink → List Said
detach_answer handle closed Free = []
detach_answer handle closed (Live l) = detach_said handle closed [] ∷ []
detach_answer handle closed Waits = []

abbrev pub answer_of : SessionState → Frame → List Said
answer_of s (Attaches a) = attach_answer s.terms a (refusal s.terms a)
answer_of s (Flows f) = flow_answer (session_after s (event_of s (Flows f))) f (report_of s (Flows f))
answer_of s (Transfers handle t) = failure_answer (report_of s (Transfers handle t))
answer_of s (Disposes d) = []
answer_of s (Detaches handle closed) = detach_answer handle closed (slot_at s handle)

-- A frame may need memory if it attaches a link, or if it is a transfer without a fault that ends its link, for which the link may need memory. A fault that ends the session
-- comes before.
abbrev pub slot_may_grow : SessionState → Sent → Slot LiveLink → Bool
slot_may_grow s t Free = false
slot_may_grow s t (Live l) = is_none (transfer_fault s l.link t) && may_grow l.link t
slot_may_grow s t Waits = false

abbrev pub frame_may_grow : SessionState → Frame → Bool
frame_may_grow s (Attaches a) = true
frame_may_grow s (Flows f) = false
frame_may_grow s (Transfers handle t) = slot_may_grow s t (slot_at s handle)
frame_may_grow s (Disposes d) = false
frame_may_grow s (Detaches handle closed) = false

-- Why a frame is refused: its first fault, or, if it has none, memory that it needs.
abbrev pub IsRefusal : SessionState → Frame → SessionFault → Type 0
IsRefusal s f fault.NoMemory = (session_fault s f ≡ None) × (frame_may_grow s f ≡ true)
IsRefusal s f fault.WindowViolation = session_fault s f ≡ Some fault.WindowViolation
IsRefusal s f fault.HandleInUse = session_fault s f ≡ Some fault.HandleInUse
IsRefusal s f fault.UnattachedHandle = session_fault s f ≡ Some fault.UnattachedHandle
IsRefusal s f fault.ResourceLimit = session_fault s f ≡ Some fault.ResourceLimit
IsRefusal s f fault.InvalidField = session_fault s f ≡ Some fault.InvalidField
