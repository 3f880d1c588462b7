-- Which events frames are: those that use a place of the window, and those that state an id.
use Rattle.std.proofs.Common.{arith, ◌≡◌, ℕ, Bool, true, false, refl, ap, ◌∙◌, Option, Some, None}
use Rattle.std.specs.Prelude.{nat_eq, is_none, if◌then◌else◌}
use Rattle.amqp_link.specs.Links.{Sent, is_beyond_credit}
use Rattle.amqp_session.specs.declared.fault.SessionFault.TheVariants as fault
use Rattle.amqp_session.specs.declared.slot.Slot.{Slot}
use Rattle.amqp_session.specs.declared.slot.Slot.TheVariants.{Free, Live, Waits}
use Rattle.amqp_session.specs.Faults.{or_else, where_so, is_free, session_fault, event_of, refusal, attached, transfer_fault, transfer_event, flow_event, named_event, is_settling, last_of}
use Rattle.amqp_session.specs.Frames.{Flowing, Frame, Attaches, Flows, Transfers, Disposes, Detaches}
use Rattle.amqp_session.specs.Laws.{IsOfTransfer}
use Rattle.amqp_session.specs.Sessions.{Attached, LiveLink, SessionState, slot_at, SessionEvent, is_transfer, stated_by}
use Rattle.amqp_session.specs.Sessions as event

-- one of two events by a test has what both have
either : {A : Type 0} (p : SessionEvent → A) (x : A) (a b : SessionEvent) → p a ≡ x → p b ≡ x → (test : Bool) → p (if test then a else b) ≡ x
either p x a b of_a of_b true = of_a
either p x a b of_a of_b false = of_b

-- a transfer without session fault uses a place
pub transfer_uses : (s : SessionState) (handle : ℕ) (t : Sent) → session_fault s (Transfers handle t) ≡ None → is_transfer (event_of s (Transfers handle t)) ≡ true
transfer_uses s handle t = by_slot (nat_eq s.window 0) (slot_at s handle)
  where
    by_slot : (full : Bool) (x : Slot LiveLink) → or_else (where_so full fault.WindowViolation) (where_so (is_free x) fault.UnattachedHandle) ≡ None → is_transfer (transfer_event s handle t x) ≡ true
    by_slot true x e = absurd (grind (arith, e))
    by_slot false Free e = absurd (grind (arith, e))
    by_slot false (Live l) e = either is_transfer true (event.TransferCame handle t) (event.TransferEnded handle) refl refl (is_none (transfer_fault s l.link t))
    by_slot false Waits e = refl

-- Each event that a flow can be is told the same of.
pub record IsOfFlows {A : Type 0} (p : SessionEvent → A) (x : A) : Type 0 where
  pub ignored : p event.Ignored ≡ x
  pub of_session : (next_id : ℕ) → p (event.FlowCame next_id) ≡ x
  pub of_link : (handle next_id : ℕ) (count : Option ℕ) → p (event.LinkFlowCame handle next_id count) ≡ x
  pub ended : (handle next_id : ℕ) → p (event.LinkFlowEnded handle next_id) ≡ x

-- and each that a frame can be
pub record IsOfFrames {A : Type 0} (p : SessionEvent → A) (x : A) : Type 0 where
  pub flows : IsOfFlows p x
  pub attached : (handle : ℕ) (a : Attached) → p (event.LinkAttached handle a) ≡ x
  pub refused : (handle : ℕ) → p (event.LinkRefused handle) ≡ x
  pub came : (handle : ℕ) (t : Sent) → p (event.TransferCame handle t) ≡ x
  pub ended : (handle : ℕ) → p (event.TransferEnded handle) ≡ x
  pub dropped : (handle : ℕ) → p (event.TransferDropped handle) ≡ x
  pub settled : (first last : ℕ) → p (event.PeerSettled first last) ≡ x
  pub detached : (handle : ℕ) → p (event.PeerDetached handle) ≡ x

module _ {A : Type 0} (p : SessionEvent → A) (x : A) where
  -- it is told of the event of a flow
  pub of_flow : IsOfFlows p x → (s : SessionState) (f : Flowing) (handle : Option ℕ) → p (named_event s f handle) ≡ x
  of_flow each s f None = each.of_session f.next_outgoing_id
  of_flow each s f (Some handle) = by_slot (slot_at s handle)
    where
      by_slot : (y : Slot LiveLink) → p (flow_event handle f y) ≡ x
      by_slot Free = each.ignored
      by_slot (Live l) =
          either p x (event.LinkFlowEnded handle f.next_outgoing_id) (event.LinkFlowCame handle f.next_outgoing_id f.delivery_count) (each.ended handle f.next_outgoing_id)
          (each.of_link handle f.next_outgoing_id f.delivery_count) (is_beyond_credit l.link.delivery_count l.link.credit f.delivery_count)
      by_slot Waits = each.ignored

  -- and of that of any frame
  pub of_frame : IsOfFrames p x → (s : SessionState) (f : Frame) → p (event_of s f) ≡ x
  of_frame each s (Attaches a) =
      either p x (event.LinkAttached a.handle (attached s.terms a)) (event.LinkRefused a.handle) (each.attached a.handle (attached s.terms a)) (each.refused a.handle) (is_none (refusal s.terms a))
  of_frame each s (Flows f) = of_flow each.flows s f f.handle
  of_frame each s (Transfers handle t) = by_slot (slot_at s handle)
    where
      by_slot : (y : Slot LiveLink) → p (transfer_event s handle t y) ≡ x
      by_slot Free = each.flows.ignored
      by_slot (Live l) = either p x (event.TransferCame handle t) (event.TransferEnded handle) (each.came handle t) (each.ended handle) (is_none (transfer_fault s l.link t))
      by_slot Waits = each.dropped handle
  of_frame each s (Disposes d) = either p x (event.PeerSettled d.first (last_of d)) event.Ignored (each.settled d.first (last_of d)) each.flows.ignored (is_settling d)
  of_frame each s (Detaches handle closed) = each.detached handle

-- a flow uses none
flow_uses_none : (s : SessionState) (f : Flowing) → is_transfer (event_of s (Flows f)) ≡ false
flow_uses_none s f = of_flow is_transfer false (record { ignored = refl; of_session = λ n. refl; of_link = λ k n c. refl; ended = λ k n. refl }) s f f.handle

-- what uses a place is a transfer
pub user_is_transfer : (s : SessionState) (f : Frame) → is_transfer (event_of s f) ≡ true → IsOfTransfer f
user_is_transfer s (Attaches a) e =
    absurd (grind (arith, e, either is_transfer false (event.LinkAttached a.handle (attached s.terms a)) (event.LinkRefused a.handle) refl refl (is_none (refusal s.terms a))))
user_is_transfer s (Flows f) e = absurd (grind (arith, e, flow_uses_none s f))
user_is_transfer s (Transfers handle t) e = record {}
user_is_transfer s (Disposes d) e = absurd (grind (arith, e, either is_transfer false (event.PeerSettled d.first (last_of d)) event.Ignored refl refl (is_settling d)))
user_is_transfer s (Detaches handle closed) e = absurd (grind (arith, e))

-- what a flow of the session states
pub session_flow_states : (s : SessionState) (f : Flowing) → f.handle ≡ None → stated_by (event_of s (Flows f)) ≡ Some f.next_outgoing_id
session_flow_states s f none = ap (λ (x : Option ℕ). stated_by (named_event s f x)) none

-- and one of a live link
pub link_flow_states : (s : SessionState) (f : Flowing) (handle : ℕ) (l : LiveLink) → f.handle ≡ Some handle → slot_at s handle ≡ Live l → stated_by (event_of s (Flows f)) ≡ Some f.next_outgoing_id
link_flow_states s f handle l named live =
    ap (λ (x : Option ℕ). stated_by (named_event s f x)) named ∙ ap (λ (x : Slot LiveLink). stated_by (flow_event handle f x)) live
    ∙ either stated_by (Some f.next_outgoing_id) (event.LinkFlowEnded handle f.next_outgoing_id) (event.LinkFlowCame handle f.next_outgoing_id f.delivery_count) refl refl
    (is_beyond_credit l.link.delivery_count l.link.credit f.delivery_count)

-- one for a link that waits says nothing
pub late_flow_ignored : (s : SessionState) (f : Flowing) (handle : ℕ) → f.handle ≡ Some handle → slot_at s handle ≡ Waits → event_of s (Flows f) ≡ event.Ignored
late_flow_ignored s f handle named waits = ap (λ (x : Option ℕ). named_event s f x) named ∙ ap (λ (x : Slot LiveLink). flow_event handle f x) waits
