-- What the frames of a sender are to an endpoint. [2.7]
use Rattle.std.specs.Prelude.{◌≡◌, ℕ, ◌^◌, ◌<◌, ◌≤◌, Bool, true, false, if◌then◌else◌, List, [], length, Some, None}
use Rattle.byteorder.specs.Endian.{big_bytes}
use Rattle.amqp_frame.specs.Units.{FrameUnit}
use Rattle.amqp_perform.specs.declared.modes.Role.TheVariants as of_role
use Rattle.amqp_perform.specs.declared.modes.SenderSettleMode.TheVariants as sender_mode
use Rattle.amqp_perform.specs.declared.modes.ReceiverSettleMode.TheVariants as receiver_mode
use Rattle.amqp_perform.specs.Said.{Said, said_frame, MayBeSaid}
use Rattle.amqp_link.specs.Links.{Sent, fault_of, step_of, is_beyond_credit, is_drained}
use Rattle.amqp_session.specs.declared.slot.Slot.TheVariants.{Free, Live}
use Rattle.amqp_session.specs.Faults.{step_report}
use Rattle.amqp_session.specs.Frames.{Attaching, Flowing, Attaches, Flows, Transfers}
use Rattle.amqp_session.specs.Sessions as session
use Rattle.amqp_session.specs.Sessions.{SessionState, LiveLink, is_reused, TransferCame, LinkFlowCame}
use Rattle.amqp_endpoint.specs.declared.event.Event.TheVariants as told
use Rattle.amqp_endpoint.specs.declared.phase.Phase.TheVariants as phase
use Rattle.amqp_endpoint.specs.Configs.{Configured, bounds_for}
use Rattle.amqp_endpoint.specs.Connections.{ConnectionState, InSession, slot_at, is_closing}
use Rattle.amqp_endpoint.specs.Fields.{Opening, read_in}
use Rattle.amqp_endpoint.specs.Introductions.{introduction}
use Rattle.amqp_endpoint.specs.Lines.{PeerOpens, PeerBegins, SessionFrame, line_of, read_line, event_on, told_on, report_told}
use Rattle.amqp_endpoint.specs.Replies.{spoken_on}
use Rattle.amqp_send.specs.declared.flow_state.FlowState.{FlowState}
use Rattle.amqp_send.specs.Frames.{IsText, IsSmall}
use Rattle.amqp_send.specs.Sendings.{frame, open_said, begin_said, attach_said, flow_said, transfer_said, source_text, target_text}

-- A frame that may be said is read as the line of what its fields say, on a connection that awaits no close.
abbrev pub LineLaw : Type 0
LineLaw = (s : ConnectionState) (x : Said) (payload : List ℕ) → MayBeSaid x → length (said_frame 0 x payload) < 2 ^ 32 → is_closing s.phase ≡ false
    → line_of s (FrameUnit (said_frame 0 x payload)) ≡ read_line s 0 (read_in s.config x.type x.cells payload)

-- Acceptance of the sender's frames, by the state of the connection. --------------------------------------------------

-- what the sender's open says
abbrev pub opening_with : List ℕ → Opening
opening_with container_id = record { max_frame_size = 4096; channel_max = 0; said = introduction container_id [] [] }

-- the peer's open is awaited
abbrev pub OpenLaw : Type 0
OpenLaw = (s : ConnectionState) (container_id : List ℕ) → s.phase ≡ phase.Unopened → IsText container_id → length (frame (open_said container_id)) < 2 ^ 32
    → line_of s (FrameUnit (frame (open_said container_id))) ≡ PeerOpens (opening_with container_id)

-- it was opened with the sender's open
abbrev pub IsOpened : ConnectionState → Type 0
IsOpened s = s.phase ≡ phase.Open 4096 0

-- channel 0 is free
abbrev pub BeginLaw : Type 0
BeginLaw = (s : ConnectionState) → IsOpened s → slot_at s 0 ≡ Free → length (frame begin_said) < 2 ^ 32
    → line_of s (FrameUnit (frame begin_said)) ≡ PeerBegins 0 (record { remote_channel = None; next_outgoing_id = 0; handle_max = 0 })

-- what the sender's attach says
abbrev pub attaching_of : Configured → List ℕ → Attaching
attaching_of config name = record {
  name = name;
  handle = 0;
  role = of_role.Sender;
  snd_settle_mode = sender_mode.Unsettled;
  rcv_settle_mode = receiver_mode.First;
  source = source_text;
  target = target_text;
  initial_delivery_count = Some 0;
  bounds = bounds_for config name;
}

-- a session lives there, and its handle 0 is free
abbrev pub AttachLaw : Type 0
AttachLaw = (s : ConnectionState) (t : SessionState) (name : List ℕ) → IsOpened s → slot_at s 0 ≡ Live t → session.slot_at t 0 ≡ Free → IsText name → length name ≤ 255
    → length (frame (attach_said name)) < 2 ^ 32 → line_of s (FrameUnit (frame (attach_said name))) ≡ SessionFrame 0 t (Attaches (attaching_of s.config name))

-- what the sender's flow says
abbrev pub flowing_of : FlowState → Flowing
flowing_of f = record { next_outgoing_id = f.next_outgoing_id; handle = Some 0; delivery_count = Some f.delivery_count; echo = false }

-- a link lives at handle 0
abbrev pub FlowLaw : Type 0
FlowLaw = (s : ConnectionState) (t : SessionState) (l : LiveLink) (f : FlowState) (drain : Bool) → IsOpened s → slot_at s 0 ≡ Live t → session.slot_at t 0 ≡ Live l → IsSmall f.peer_next_outgoing_id
    → f.next_outgoing_id < 2 ^ 32 → f.delivery_count < 2 ^ 32 → length (frame (flow_said f drain)) < 2 ^ 32 → line_of s (FrameUnit (frame (flow_said f drain))) ≡ SessionFrame 0 t (Flows (flowing_of f))

-- what the sender's transfers say: a first one its id and its tag, a later one neither
abbrev pub sent_by : ℕ → Bool → Bool → List ℕ → Sent
sent_by id true more payload = record { delivery_id = None; delivery_tag = None; message_format = None; settled = false; more = more; rcv_settle_mode = None; resume = false; aborted = false; payload = payload }
sent_by id false more payload = record {
  delivery_id = Some id;
  delivery_tag = Some (big_bytes 4 id);
  message_format = Some 0;
  settled = false;
  more = more;
  rcv_settle_mode = None;
  resume = false;
  aborted = false;
  payload = payload;
}

-- a place is left in the window
abbrev pub TransferLaw : Type 0
TransferLaw = (s : ConnectionState) (t : SessionState) (l : LiveLink) (id : ℕ) (begun more : Bool) (payload : List ℕ) → IsOpened s → slot_at s 0 ≡ Live t → session.slot_at t 0 ≡ Live l → 0 < t.window → id < 2 ^ 32
    → length (said_frame 0 (transfer_said id begun more) payload) < 2 ^ 32 → line_of s (FrameUnit (said_frame 0 (transfer_said id begun more) payload)) ≡ SessionFrame 0 t (Transfers 0 (sent_by id begun more payload))

-- Such a line fails nothing, if neither session nor link finds a fault: -------------------------------------------------

-- the line of a transfer, which is then reported as unfinished or ready, and not answered
pub record IsTaken (s : ConnectionState) (t : SessionState) (w : Sent) : Type 0 where
  pub event : event_on s (SessionFrame 0 t (Transfers 0 w)) ≡ InSession 0 (TransferCame 0 w)
  pub told : told_on s (SessionFrame 0 t (Transfers 0 w)) ≡ report_told 0 (step_report 0 (step_of w))
  pub reply : spoken_on s (SessionFrame 0 t (Transfers 0 w)) ≡ []

abbrev pub TakenLaw : Type 0
TakenLaw = (s : ConnectionState) (t : SessionState) (l : LiveLink) (w : Sent) → session.slot_at t 0 ≡ Live l → is_reused t l.link w ≡ false → fault_of l.link w ≡ None → IsTaken s t w

-- the line of a flow that doesn't go beyond the credit
pub record IsHeeded (s : ConnectionState) (t : SessionState) (l : LiveLink) (f : FlowState) : Type 0 where
  pub event : event_on s (SessionFrame 0 t (Flows (flowing_of f))) ≡ InSession 0 (LinkFlowCame 0 f.next_outgoing_id (Some f.delivery_count))
  pub told : told_on s (SessionFrame 0 t (Flows (flowing_of f))) ≡ (if is_drained l.link (Some f.delivery_count) then Some (told.Drained 0 0) else None)
  pub reply : spoken_on s (SessionFrame 0 t (Flows (flowing_of f))) ≡ []

abbrev pub HeededLaw : Type 0
HeededLaw = (s : ConnectionState) (t : SessionState) (l : LiveLink) (f : FlowState) → session.slot_at t 0 ≡ Live l → is_beyond_credit l.link.delivery_count l.link.credit (Some f.delivery_count) ≡ false → IsHeeded s t l f
