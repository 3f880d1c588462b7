-- The fields of a performative in memory, in the order of its table, without where they lie. [2.7]
use Rattle.std.specs.Prelude.{ℕ, Bool, true, false, if◌then◌else◌, List, [], ◌∷◌, Option}
use Rattle.amqp_perform.specs.declared.descriptor.Descriptor.{Descriptor}
use Rattle.amqp_perform.specs.declared.descriptor.Descriptor.TheVariants as of_type
use Rattle.amqp_perform.specs.declared.modes.Role.{Role}
use Rattle.amqp_perform.specs.declared.modes.Role.TheVariants as of_role
use Rattle.amqp_perform.specs.declared.modes.SenderSettleMode.{SenderSettleMode}
use Rattle.amqp_perform.specs.declared.modes.SenderSettleMode.TheVariants as sender
use Rattle.amqp_perform.specs.declared.modes.ReceiverSettleMode.{ReceiverSettleMode}
use Rattle.amqp_perform.specs.declared.modes.ReceiverSettleMode.TheVariants as receiver
use Rattle.amqp_perform.specs.declared.performative.Performative.{Performative}
use Rattle.amqp_perform.specs.declared.performative.Performative.TheVariants as performative
use Rattle.amqp_perform.specs.declared.performative.Open.{Open}
use Rattle.amqp_perform.specs.declared.performative.Begin.{Begin}
use Rattle.amqp_perform.specs.declared.performative.Attach.{Attach}
use Rattle.amqp_perform.specs.declared.performative.Flow.{Flow}
use Rattle.amqp_perform.specs.declared.performative.Transfer.{Transfer}
use Rattle.amqp_perform.specs.declared.performative.Disposition.{Disposition}
use Rattle.amqp_perform.specs.declared.performative.Detach.{Detach}
use Rattle.amqp_perform.specs.declared.performative.End.{End}
use Rattle.amqp_perform.specs.declared.performative.Close.{Close}
use Rattle.std.specs.Option.{option_map, option_map_or, option_copied}
use Rattle.amqp_perform.specs.Cells.{Cell, Absent, Whole, Bytes, Span}

abbrev pub flag : Bool → Cell
flag b = Whole (if b then 1 else 0)

-- the role is spelled as a boolean, true for the receiver [2.8.1]
abbrev pub is_receiver : Role → Bool
is_receiver of_role.Sender = false
is_receiver of_role.Receiver = true

abbrev pub role : Role → Cell
role r = flag (is_receiver r)

-- [2.8.2, 2.8.3]
abbrev pub sender_mode : SenderSettleMode → ℕ
sender_mode sender.Unsettled = 0
sender_mode sender.Settled = 1
sender_mode sender.Mixed = 2

abbrev pub receiver_mode : ReceiverSettleMode → ℕ
receiver_mode receiver.First = 0
receiver_mode receiver.Second = 1

abbrev pub optional_flag : Option Bool → Cell
optional_flag b = option_map_or flag b Absent

abbrev pub optional_whole : Option ℕ → Cell
optional_whole n = option_map_or Whole n Absent

abbrev pub optional_bytes : Option (List ℕ) → Cell
optional_bytes octets = option_map_or Bytes octets Absent

-- an empty span is an absent field
abbrev pub span : List ℕ → Cell
span [] = Absent
span (b ∷ bytes) = Span (b ∷ bytes)

abbrev pub open_cells : Open → List Cell
open_cells p =
    Bytes p.container_id.now ∷ span p.hostname.now ∷ Whole p.max_frame_size ∷ Whole p.channel_max ∷ span p.idle_time_out.now
    ∷ span p.outgoing_locales.now ∷ span p.incoming_locales.now ∷ span p.offered_capabilities.now ∷ span p.desired_capabilities.now
    ∷ span p.properties.now ∷ []

abbrev pub begin_cells : Begin → List Cell
begin_cells p =
    optional_whole p.remote_channel ∷ Whole p.next_outgoing_id ∷ Whole p.incoming_window ∷ Whole p.outgoing_window ∷ Whole p.handle_max
    ∷ span p.offered_capabilities.now ∷ span p.desired_capabilities.now ∷ span p.properties.now ∷ []

abbrev pub attach_cells : Attach → List Cell
attach_cells p =
    Bytes p.name.now ∷ Whole p.handle ∷ role p.role ∷ Whole (sender_mode p.snd_settle_mode) ∷ Whole (receiver_mode p.rcv_settle_mode) ∷ span p.source.now
    ∷ span p.target.now ∷ span p.unsettled.now ∷ span p.incomplete_unsettled.now ∷ optional_whole p.initial_delivery_count
    ∷ span p.max_message_size.now ∷ span p.offered_capabilities.now ∷ span p.desired_capabilities.now ∷ span p.properties.now ∷ []

abbrev pub flow_cells : Flow → List Cell
flow_cells p =
    optional_whole p.next_incoming_id ∷ Whole p.incoming_window ∷ Whole p.next_outgoing_id ∷ Whole p.outgoing_window ∷ optional_whole p.handle
    ∷ optional_whole p.delivery_count ∷ optional_whole p.link_credit ∷ optional_whole p.available ∷ flag p.drain ∷ flag p.echo
    ∷ span p.properties.now ∷ []

abbrev pub transfer_cells : Transfer → List Cell
transfer_cells p =
    Whole p.handle ∷ optional_whole p.delivery_id ∷ optional_bytes (option_copied p.delivery_tag) ∷ optional_whole p.message_format
    ∷ optional_flag p.settled ∷ flag p.more ∷ optional_whole (option_map receiver_mode p.rcv_settle_mode) ∷ span p.state.now ∷ flag p.resume ∷ flag p.aborted
    ∷ span p.batchable.now ∷ []

abbrev pub disposition_cells : Disposition → List Cell
disposition_cells p =
    role p.role ∷ Whole p.first ∷ optional_whole p.last ∷ flag p.settled ∷ span p.state.now ∷ span p.batchable.now ∷ []

abbrev pub detach_cells : Detach → List Cell
detach_cells p = Whole p.handle ∷ flag p.closed ∷ span p.error.now ∷ []

abbrev pub end_cells : End → List Cell
end_cells p = span p.error.now ∷ []

abbrev pub close_cells : Close → List Cell
close_cells p = span p.error.now ∷ []

-- which performative it is
abbrev pub type_of : Performative → Descriptor
type_of (performative.Open p) = of_type.Open
type_of (performative.Begin p) = of_type.Begin
type_of (performative.Attach p) = of_type.Attach
type_of (performative.Flow p) = of_type.Flow
type_of (performative.Transfer p) = of_type.Transfer
type_of (performative.Disposition p) = of_type.Disposition
type_of (performative.Detach p) = of_type.Detach
type_of (performative.End p) = of_type.End
type_of (performative.Close p) = of_type.Close

abbrev pub performative_cells : Performative → List Cell
performative_cells (performative.Open p) = open_cells p
performative_cells (performative.Begin p) = begin_cells p
performative_cells (performative.Attach p) = attach_cells p
performative_cells (performative.Flow p) = flow_cells p
performative_cells (performative.Transfer p) = transfer_cells p
performative_cells (performative.Disposition p) = disposition_cells p
performative_cells (performative.Detach p) = detach_cells p
performative_cells (performative.End p) = end_cells p
performative_cells (performative.Close p) = close_cells p
