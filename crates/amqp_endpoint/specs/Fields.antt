-- What the fields of a performative that was read say to a connection and its sessions (AMQP 1.0, part 2, section 2.7).
use Rattle.std.specs.Prelude.{ℕ, ◌==◌, if◌then◌else◌, List, [], ◌∷◌, Option, Some, None, unwrap_or}
use Rattle.amqp_perform.specs.declared.descriptor.Descriptor.{Descriptor}
use Rattle.amqp_perform.specs.declared.descriptor.Descriptor.TheVariants as of_type
use Rattle.amqp_perform.specs.declared.modes.Role.{Role}
use Rattle.amqp_perform.specs.declared.modes.Role.TheVariants as of_role
use Rattle.amqp_perform.specs.declared.modes.SenderSettleMode.{SenderSettleMode}
use Rattle.amqp_perform.specs.declared.modes.SenderSettleMode.TheVariants as sender
use Rattle.amqp_perform.specs.declared.modes.ReceiverSettleMode.{ReceiverSettleMode}
use Rattle.amqp_perform.specs.declared.modes.ReceiverSettleMode.TheVariants as receiver
use Rattle.amqp_perform.specs.declared.performative.Performative.{Performative}
use Rattle.amqp_perform.specs.declared.performative.Performative.TheVariants as performative
use Rattle.amqp_perform.specs.declared.performative.Begin.{Begin}
use Rattle.amqp_perform.specs.declared.performative.Open.{Open}
use Rattle.amqp_perform.specs.Cells.{Cell, Bytes, number_in, whole_in, flag_in, span_in}
use Rattle.amqp_session.specs.Frames.{Frame, Attaches, Flows, Transfers, Disposes, Detaches, frame_of}
use Rattle.amqp_endpoint.specs.Configs.{Configured, bounds_for}
use Rattle.amqp_endpoint.specs.declared.introduction.Introduction.{Introduction}
use Rattle.amqp_endpoint.specs.Introductions.{introduction, introduction_by}

-- What is in a field. ------------------------------------------------------------------------------------------------

-- the bytes of a binary or a text, or none
abbrev pub octets_in : Cell → Option (List ℕ)
octets_in (Bytes octets) = Some octets
octets_in _ = None

-- true is the receiver [2.8.1]
abbrev pub role_in : Cell → Role
role_in c = if flag_in c then of_role.Receiver else of_role.Sender

-- [2.8.2]
abbrev pub sender_mode_of : ℕ → SenderSettleMode
sender_mode_of n = if n == 0 then sender.Unsettled else (if n == 1 then sender.Settled else sender.Mixed)

-- [2.8.3]
abbrev pub receiver_mode_of : ℕ → ReceiverSettleMode
receiver_mode_of n = if n == 0 then receiver.First else receiver.Second

abbrev pub receiver_mode_in : Option ℕ → Option ReceiverSettleMode
receiver_mode_in None = None
receiver_mode_in (Some n) = Some (receiver_mode_of n)

-- What the connection reads. -----------------------------------------------------------------------------------------

-- An open of the peer, with what it says of itself. Its locales, capabilities and properties are ignored. [2.7.1]
pub record Opening : Type 0 where
  pub max_frame_size : ℕ
  pub channel_max : ℕ
  pub said : Introduction

-- a begin of the peer [2.7.2]
pub record Beginning : Type 0 where
  pub remote_channel : Option ℕ
  pub next_outgoing_id : ℕ
  pub handle_max : ℕ

-- a performative, by whom it is for
pub data Read : Type 0 where
  Opens : Opening → Read
  Begins : Beginning → Read
  Ends : Read
  Closes : Read
  ForSession : Frame → Read
  Other : Read  -- no performative

abbrev pub open_in : List Cell → Read
open_in (container_id ∷ hostname ∷ max_frame_size ∷ channel_max ∷ idle_time_out ∷ rest) =
    Opens (record {
      max_frame_size = whole_in max_frame_size;
      channel_max = whole_in channel_max;
      said = introduction (unwrap_or (octets_in container_id) []) (span_in hostname) (span_in idle_time_out);
    })
open_in _ = Other

abbrev pub begin_in : List Cell → Read
begin_in (remote_channel ∷ next_outgoing_id ∷ incoming_window ∷ outgoing_window ∷ handle_max ∷ rest) =
    Begins (record { remote_channel = number_in remote_channel; next_outgoing_id = whole_in next_outgoing_id; handle_max = whole_in handle_max })
begin_in _ = Other

-- What a session reads. ----------------------------------------------------------------------------------------------

-- an attach, with what its link may hold
abbrev pub attach_in : Configured → List Cell → Read
attach_in config (name ∷ handle ∷ role ∷ snd_settle_mode ∷ rcv_settle_mode ∷ source ∷ target ∷ unsettled ∷ incomplete ∷ initial_delivery_count ∷ rest) =
    ForSession (Attaches (record {
      name = unwrap_or (octets_in name) [];
      handle = whole_in handle;
      role = role_in role;
      snd_settle_mode = sender_mode_of (whole_in snd_settle_mode);
      rcv_settle_mode = receiver_mode_of (whole_in rcv_settle_mode);
      source = span_in source;
      target = span_in target;
      initial_delivery_count = number_in initial_delivery_count;
      bounds = bounds_for config (unwrap_or (octets_in name) []);
    }))
attach_in config _ = Other

abbrev pub flow_in : List Cell → Read
flow_in (next_incoming_id ∷ incoming_window ∷ next_outgoing_id ∷ outgoing_window ∷ handle ∷ delivery_count ∷ link_credit ∷ available ∷ drain ∷ echo ∷ rest) =
    ForSession (Flows (record { next_outgoing_id = whole_in next_outgoing_id; handle = number_in handle; delivery_count = number_in delivery_count; echo = flag_in echo }))
flow_in _ = Other

abbrev pub transfer_in : List Cell → List ℕ → Read
transfer_in (handle ∷ delivery_id ∷ delivery_tag ∷ message_format ∷ settled ∷ more ∷ rcv_settle_mode ∷ state ∷ resume ∷ aborted ∷ rest) payload =
    ForSession (Transfers (whole_in handle) (record {
      delivery_id = number_in delivery_id;
      delivery_tag = octets_in delivery_tag;
      message_format = number_in message_format;
      settled = flag_in settled;
      more = flag_in more;
      rcv_settle_mode = receiver_mode_in (number_in rcv_settle_mode);
      resume = flag_in resume;
      aborted = flag_in aborted;
      payload = payload;
    }))
transfer_in _ payload = Other

abbrev pub disposition_in : List Cell → Read
disposition_in (role ∷ first ∷ last ∷ settled ∷ rest) = ForSession (Disposes (record { role = role_in role; first = whole_in first; last = number_in last; settled = flag_in settled }))
disposition_in _ = Other

abbrev pub detach_in : List Cell → Read
detach_in (handle ∷ closed ∷ rest) = ForSession (Detaches (whole_in handle) (flag_in closed))
detach_in _ = Other

-- what a performative of this type with these fields and the payload after it says to a side with this configuration
abbrev pub read_in : Configured → Descriptor → List Cell → List ℕ → Read
read_in config of_type.Open cells payload = open_in cells
read_in config of_type.Begin cells payload = begin_in cells
read_in config of_type.Attach cells payload = attach_in config cells
read_in config of_type.Flow cells payload = flow_in cells
read_in config of_type.Transfer cells payload = transfer_in cells payload
read_in config of_type.Disposition cells payload = disposition_in cells
read_in config of_type.Detach cells payload = detach_in cells
read_in config of_type.End cells payload = Ends
read_in config of_type.Close cells payload = Closes
read_in config _ cells payload = Other

-- what an open and a begin say
abbrev pub opening : Open → Opening
opening p = record { max_frame_size = p.max_frame_size; channel_max = p.channel_max; said = introduction_by p }

abbrev pub beginning : Begin → Beginning
beginning p = record { remote_channel = p.remote_channel; next_outgoing_id = p.next_outgoing_id; handle_max = p.handle_max }

-- what a performative says, with the payload after it
abbrev pub for_session : Option Frame → Read
for_session None = Other
for_session (Some f) = ForSession f

-- the name of the link that a performative begins, if it begins one
abbrev pub named : Performative → List ℕ
named (performative.Attach p) = p.name.now
named _ = []

-- which frame of its session a performative is
abbrev pub frame_in : Configured → Performative → List ℕ → Option Frame
frame_in config p payload = frame_of p payload (bounds_for config (named p))

abbrev pub read_of : Configured → Performative → List ℕ → Read
read_of config (performative.Open p) payload = Opens (opening p)
read_of config (performative.Begin p) payload = Begins (beginning p)
read_of config (performative.End p) payload = Ends
read_of config (performative.Close p) payload = Closes
read_of config p payload = for_session (frame_in config p payload)
