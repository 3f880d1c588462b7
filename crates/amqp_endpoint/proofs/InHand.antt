-- What is read of a performative in hand is what its fields say.
use Rattle.std.proofs.Common.{◌≡◌, ℕ, Bool, true, false, List, [], ◌∷◌, refl, Option, Some, None}
use Rattle.std.specs.Prelude.{unwrap_or}
use Rattle.std.specs.Option.{option_map, option_copied}
use Rattle.amqp_perform.specs.declared.modes.Role.{Role}
use Rattle.amqp_perform.specs.declared.modes.Role.TheVariants as of_role
use Rattle.amqp_perform.specs.declared.modes.SenderSettleMode.{SenderSettleMode}
use Rattle.amqp_perform.specs.declared.modes.SenderSettleMode.TheVariants as sender
use Rattle.amqp_perform.specs.declared.modes.ReceiverSettleMode.{ReceiverSettleMode}
use Rattle.amqp_perform.specs.declared.modes.ReceiverSettleMode.TheVariants as receiver
use Rattle.amqp_perform.specs.declared.performative.Performative.{Performative}
use Rattle.amqp_perform.specs.declared.performative.Performative.TheVariants as performative
use Rattle.amqp_perform.specs.declared.performative.Attach.{Attach}
use Rattle.amqp_perform.specs.declared.performative.Flow.{Flow}
use Rattle.amqp_perform.specs.declared.performative.Transfer.{Transfer}
use Rattle.amqp_perform.specs.declared.performative.Disposition.{Disposition}
use Rattle.amqp_perform.specs.Performatives.{flag, role, sender_mode, receiver_mode, optional_flag, optional_whole, optional_bytes, span, type_of, performative_cells}
use Rattle.amqp_perform.specs.Performatives.{attach_cells, flow_cells, transfer_cells, disposition_cells}
use Rattle.amqp_link.specs.Links.{sent_of}
use Rattle.amqp_session.specs.Frames.{Attaches, Flows, Transfers, Disposes, attaching, flowing, disposing}
use Rattle.amqp_perform.specs.Cells.{number_in, flag_in, span_in}
use Rattle.amqp_endpoint.specs.Configs.{Configured, bounds_for}
use Rattle.amqp_endpoint.specs.Fields.{octets_in, role_in, sender_mode_of, receiver_mode_of, receiver_mode_in}
use Rattle.amqp_endpoint.specs.Fields.{ForSession, attach_in, flow_in, transfer_in, disposition_in, read_in, read_of}

-- Fields. ---------------------------------------------------------------------------------------------------------------

number_back : (o : Option ℕ) → number_in (optional_whole o) ≡ o
number_back None = refl
number_back (Some n) = refl

flag_back : (b : Bool) → flag_in (flag b) ≡ b
flag_back true = refl
flag_back false = refl

settled_back : (o : Option Bool) → flag_in (optional_flag o) ≡ unwrap_or o false
settled_back None = refl
settled_back (Some true) = refl
settled_back (Some false) = refl

role_back : (r : Role) → role_in (role r) ≡ r
role_back of_role.Sender = refl
role_back of_role.Receiver = refl

sender_back : (m : SenderSettleMode) → sender_mode_of (sender_mode m) ≡ m
sender_back sender.Unsettled = refl
sender_back sender.Settled = refl
sender_back sender.Mixed = refl

receiver_back : (m : ReceiverSettleMode) → receiver_mode_of (receiver_mode m) ≡ m
receiver_back receiver.First = refl
receiver_back receiver.Second = refl

mode_back : (o : Option ReceiverSettleMode) → receiver_mode_in (number_in (optional_whole (option_map receiver_mode o))) ≡ o
mode_back None = refl
mode_back (Some receiver.First) = refl
mode_back (Some receiver.Second) = refl

octets_back : (o : Option (List ℕ)) → octets_in (optional_bytes o) ≡ o
octets_back None = refl
octets_back (Some octets) = refl

span_back : (text : List ℕ) → span_in (span text) ≡ text
span_back [] = refl
span_back (b ∷ text) = refl

-- Performatives. --------------------------------------------------------------------------------------------------------

attach_read : (config : Configured) (p : Attach) → attach_in config (attach_cells p) ≡ ForSession (Attaches (attaching p (bounds_for config p.name.now)))
attach_read config p =
    rw (
      role_back p.role,
      sender_back p.snd_settle_mode,
      receiver_back p.rcv_settle_mode,
      span_back p.source.now,
      span_back p.target.now,
      number_back p.initial_delivery_count,
    ) refl

flow_read : (p : Flow) → flow_in (flow_cells p) ≡ ForSession (Flows (flowing p))
flow_read p = rw (number_back p.handle, number_back p.delivery_count, flag_back p.echo) refl

transfer_read : (p : Transfer) (payload : List ℕ) → transfer_in (transfer_cells p) payload ≡ ForSession (Transfers p.handle (sent_of p payload))
transfer_read p payload =
    rw (
      number_back p.delivery_id,
      octets_back (option_copied p.delivery_tag),
      number_back p.message_format,
      settled_back p.settled,
      flag_back p.more,
      mode_back p.rcv_settle_mode,
      flag_back p.resume,
      flag_back p.aborted,
    ) refl

disposition_read : (p : Disposition) → disposition_in (disposition_cells p) ≡ ForSession (Disposes (disposing p))
disposition_read p = rw (role_back p.role, number_back p.last, flag_back p.settled) refl

-- a performative in hand says what its fields say
pub in_hand : (config : Configured) (p : Performative) (payload : List ℕ) → read_in config (type_of p) (performative_cells p) payload ≡ read_of config p payload
in_hand config (performative.Open p) payload = rw (span_back p.hostname.now, span_back p.idle_time_out.now) refl
in_hand config (performative.Begin p) payload = rw (number_back p.remote_channel) refl
in_hand config (performative.Attach p) payload = attach_read config p
in_hand config (performative.Flow p) payload = flow_read p
in_hand config (performative.Transfer p) payload = transfer_read p payload
in_hand config (performative.Disposition p) payload = disposition_read p
in_hand config (performative.Detach p) payload = rw (flag_back p.closed) refl
in_hand config (performative.End p) payload = refl
in_hand config (performative.Close p) payload = refl
