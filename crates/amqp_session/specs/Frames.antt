-- What a session reads of a frame, and what it says in answer, in plain numbers and lists (AMQP 1.0, part 2, section 2.7).
use Rattle.std.specs.Prelude.{ℕ, ◌^◌, ◌<◌, ◌≤◌, Bool, true, false, ◌==◌, if◌then◌else◌, List, [], ◌∷◌, Option, Some, None, unwrap_or, codes, bytes_eq, Ok, Err}
use Rattle.amqp_types.specs.declared.kind.Kind.TheVariants as kind
use Rattle.amqp_types.specs.Canonical.{canonical}
use Rattle.amqp_types.specs.Reading.{Part, value_of}
use Rattle.amqp_types.specs.Trees.{Tree, Number, Octets}
use Rattle.amqp_perform.specs.declared.condition.Condition.{Condition}
use Rattle.amqp_perform.specs.declared.descriptor.Descriptor.TheVariants as of_type
use Rattle.amqp_perform.specs.declared.modes.Role.{Role}
use Rattle.amqp_perform.specs.declared.modes.Role.TheVariants as of_role
use Rattle.amqp_perform.specs.declared.modes.SenderSettleMode.{SenderSettleMode}
use Rattle.amqp_perform.specs.declared.modes.ReceiverSettleMode.{ReceiverSettleMode}
use Rattle.amqp_perform.specs.declared.performative.Performative.{Performative}
use Rattle.amqp_perform.specs.declared.performative.Performative.TheVariants as performative
use Rattle.amqp_perform.specs.declared.performative.Attach.{Attach}
use Rattle.amqp_perform.specs.declared.performative.Flow.{Flow}
use Rattle.amqp_perform.specs.declared.performative.Disposition.{Disposition}
use Rattle.amqp_perform.specs.Cells.{Cell, Absent, Whole, Bytes, Span}
use Rattle.amqp_perform.specs.Conditions.{condition_span}
pub use Rattle.amqp_perform.specs.Receivers.{link_flow_said, stated_said, last_stated, disposition_said}
use Rattle.amqp_perform.specs.Said.{Said}
use Rattle.amqp_perform.specs.Performatives.{flag, role, sender_mode, receiver_mode, span}
use Rattle.amqp_link.specs.Bounds.{Bounds}
use Rattle.amqp_link.specs.Links.{Sent, sent_of}

-- What is read. ---------------------------------------------------------------------------------------------------------

-- an attach of the peer [2.7.3]
pub record Attaching : Type 0 where
  pub name : List ℕ
  pub handle : ℕ
  pub role : Role  -- of the peer
  pub snd_settle_mode : SenderSettleMode
  pub rcv_settle_mode : ReceiverSettleMode
  pub source : List ℕ  -- as it is encoded; empty if it is absent
  pub target : List ℕ
  pub initial_delivery_count : Option ℕ
  pub bounds : Bounds  -- what its link may hold

-- a flow of the peer [2.7.4]
pub record Flowing : Type 0 where
  pub next_outgoing_id : ℕ
  pub handle : Option ℕ
  pub delivery_count : Option ℕ
  pub echo : Bool

-- a disposition of the peer [2.7.6]
pub record Disposing : Type 0 where
  pub role : Role
  pub first : ℕ
  pub last : Option ℕ
  pub settled : Bool

-- a frame of a session that has begun
pub data Frame : Type 0 where
  Attaches : Attaching → Frame
  Flows : Flowing → Frame
  Transfers : ℕ → Sent → Frame  -- a transfer on the link with this handle
  Disposes : Disposing → Frame
  Detaches : ℕ → Bool → Frame  -- a detach of the link with this handle, with closed or not

abbrev pub attaching : Attach → Bounds → Attaching
attaching p bounds = record {
  name = p.name.now;
  handle = p.handle;
  role = p.role;
  snd_settle_mode = p.snd_settle_mode;
  rcv_settle_mode = p.rcv_settle_mode;
  source = p.source.now;
  target = p.target.now;
  initial_delivery_count = p.initial_delivery_count;
  bounds = bounds;
}

abbrev pub flowing : Flow → Flowing
flowing p = record { next_outgoing_id = p.next_outgoing_id; handle = p.handle; delivery_count = p.delivery_count; echo = p.echo }

abbrev pub disposing : Disposition → Disposing
disposing p = record { role = p.role; first = p.first; last = p.last; settled = p.settled }

-- which frame of the session a performative with its payload is; None if it is not for the session
abbrev pub frame_of : Performative → List ℕ → Bounds → Option Frame
frame_of (performative.Open p) payload bounds = None
frame_of (performative.Begin p) payload bounds = None
frame_of (performative.Attach p) payload bounds = Some (Attaches (attaching p bounds))
frame_of (performative.Flow p) payload bounds = Some (Flows (flowing p))
frame_of (performative.Transfer p) payload bounds = Some (Transfers p.handle (sent_of p payload))
frame_of (performative.Disposition p) payload bounds = Some (Disposes (disposing p))
frame_of (performative.Detach p) payload bounds = Some (Detaches p.handle p.closed)
frame_of (performative.End p) payload bounds = None
frame_of (performative.Close p) payload bounds = None

-- A target describes a coordinator of transactions by the ulong 0x30 or the symbol, in any spelling, whatever follows. [part 4, 4.5.1]
abbrev pub is_coordinator_type : Tree → Bool
is_coordinator_type (Number kind.Ulong n) = n == 0x30
is_coordinator_type (Octets kind.Symbol octets) = bytes_eq octets (codes "amqp:coordinator:list")
is_coordinator_type _ = false

abbrev pub is_coordinator_in : Part Tree → Bool
is_coordinator_in (Ok x) = is_coordinator_type x.0
is_coordinator_in (Err e) = false

abbrev pub is_coordinator : List ℕ → Bool
is_coordinator [] = false
is_coordinator (code ∷ rest) = if code == 0 then is_coordinator_in (value_of 31 None rest) else false

-- A delivery-id and an initial-delivery-count have 32 bits, and a link attaches at a handle of at most handle_max.
abbrev pub IsInRange : ℕ → Frame → Type 0
IsInRange handle_max (Attaches a) = (a.handle ≤ handle_max) × (unwrap_or a.initial_delivery_count 0 < 2 ^ 32)
IsInRange handle_max (Flows f) = Unit {0}
IsInRange handle_max (Transfers handle t) = unwrap_or t.delivery_id 0 < 2 ^ 32
IsInRange handle_max (Disposes d) = Unit {0}
IsInRange handle_max (Detaches handle closed) = Unit {0}

-- What is said. ---------------------------------------------------------------------------------------------------------

-- the role of this side, given the peer's [2.8.1]
abbrev pub other_role : Role → Role
other_role of_role.Sender = of_role.Receiver
other_role of_role.Receiver = of_role.Sender

-- the answer to an attach, with the longest message that is accepted [2.6.3, 2.7.3]
abbrev pub attach_said : ℕ → Attaching → Said
attach_said longest a = record {
  type = of_type.Attach;
  cells =
      Bytes a.name ∷ Whole a.handle ∷ role (other_role a.role) ∷ Whole (sender_mode a.snd_settle_mode) ∷ Whole (receiver_mode a.rcv_settle_mode) ∷ span a.source ∷ span a.target ∷ Absent ∷ Absent ∷
      Absent
      ∷ Span (canonical (Number kind.Ulong longest)) ∷ Absent ∷ Absent ∷ Absent ∷ [];
}

-- if this side would be the sender, it states an initial-delivery-count [2.7.3]
abbrev pub count_stated : Role → Cell
count_stated of_role.Sender = Absent
count_stated of_role.Receiver = Whole 0

-- the attach of a link that is refused: it has neither source nor target [2.6.3]
abbrev pub refusal_said : Attaching → Said
refusal_said a = record {
  type = of_type.Attach;
  cells =
      Bytes a.name ∷ Whole a.handle ∷ role (other_role a.role) ∷ Whole (sender_mode a.snd_settle_mode) ∷ Whole (receiver_mode a.rcv_settle_mode) ∷ Absent ∷ Absent ∷ Absent ∷ Absent ∷ count_stated
      a.role ∷ Absent
      ∷ Absent ∷ Absent ∷ Absent ∷ [];
}

-- a detach, with this error or none [2.7.7]
abbrev pub detach_said : ℕ → Bool → List ℕ → Said
detach_said handle closed error = record { type = of_type.Detach; cells = Whole handle ∷ flag closed ∷ span error ∷ [] }

-- this side ends a link with an error [2.6.5]
abbrev pub failure_said : ℕ → Condition → Said
failure_said handle condition = detach_said handle true (condition_span condition)

-- the flow of a session: this side sends nothing [2.7.4]
abbrev pub flow_said : ℕ → ℕ → Said
flow_said next_id window = record { type = of_type.Flow; cells = Whole next_id ∷ Whole window ∷ Whole 0 ∷ Whole 0 ∷ Absent ∷ Absent ∷ Absent ∷ Absent ∷ flag false ∷ flag false ∷ Absent ∷ [] }
