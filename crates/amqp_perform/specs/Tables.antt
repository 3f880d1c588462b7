-- The fields of each performative, in order, as in the standard's tables. [2.7]
use Rattle.std.specs.Prelude.{ℕ, List, [], ◌∷◌, Option, Some, None, codes}
use Rattle.amqp_perform.specs.declared.descriptor.Descriptor.{Descriptor}
use Rattle.amqp_perform.specs.declared.descriptor.Descriptor.TheVariants as of_type

-- What a field may be. A type with a number is narrower than the primitive type of its name.
pub data FieldType : Type 0 where
  boolean : FieldType
  -- at most this
  ubyte_to : ℕ → FieldType
  ushort : FieldType
  -- at least this
  uint_from : ℕ → FieldType
  binary : FieldType
  string : FieldType
  symbol : FieldType
  -- a value of any type, which is only known to be well spelled
  spanned : FieldType

-- What an absent field is. A field is absent if it is a null, or comes after the last item. [1.4]
pub data Absence : Type 0 where
  -- a fault
  mandatory : Absence
  -- absent
  optional : Absence
  -- this number; for a boolean 0 is false
  default : ℕ → Absence

pub record Field : Type 0 where
  pub name : List ℕ
  pub type : FieldType
  pub absence : Absence

abbrev pub field : List ℕ → FieldType → Absence → Field
field n t a = record { name = n; type = t; absence = a }

abbrev pub uint : FieldType
uint = uint_from 0

-- unsettled, settled, mixed [2.8.2]; first, second [2.8.3]
abbrev pub sender_settle_mode : FieldType
sender_settle_mode = ubyte_to 2

abbrev pub receiver_settle_mode : FieldType
receiver_settle_mode = ubyte_to 1

-- Fields that this side does not use are of any type: hostname, idle-time-out, locales, capabilities,
-- properties, unsettled, incomplete-unsettled, max-message-size, batchable. So are source, target, state and
-- error, which are kept as bytes.

-- [2.7.1]
abbrev pub open_fields : List Field
open_fields =
    field (codes "container-id") string mandatory ∷
    field (codes "hostname") spanned optional ∷
    field (codes "max-frame-size") (uint_from 512) (default 4294967295) ∷
    field (codes "channel-max") ushort (default 65535) ∷
    field (codes "idle-time-out") spanned optional ∷
    field (codes "outgoing-locales") spanned optional ∷
    field (codes "incoming-locales") spanned optional ∷
    field (codes "offered-capabilities") spanned optional ∷
    field (codes "desired-capabilities") spanned optional ∷
    field (codes "properties") spanned optional ∷
    []

-- [2.7.2]
abbrev pub begin_fields : List Field
begin_fields =
    field (codes "remote-channel") ushort optional ∷
    field (codes "next-outgoing-id") uint mandatory ∷
    field (codes "incoming-window") uint mandatory ∷
    field (codes "outgoing-window") uint mandatory ∷
    field (codes "handle-max") uint (default 4294967295) ∷
    field (codes "offered-capabilities") spanned optional ∷
    field (codes "desired-capabilities") spanned optional ∷
    field (codes "properties") spanned optional ∷
    []

-- [2.7.3]
abbrev pub attach_fields : List Field
attach_fields =
    field (codes "name") string mandatory ∷
    field (codes "handle") uint mandatory ∷
    field (codes "role") boolean mandatory ∷
    field (codes "snd-settle-mode") sender_settle_mode (default 2) ∷
    field (codes "rcv-settle-mode") receiver_settle_mode (default 0) ∷
    field (codes "source") spanned optional ∷
    field (codes "target") spanned optional ∷
    field (codes "unsettled") spanned optional ∷
    field (codes "incomplete-unsettled") spanned optional ∷
    field (codes "initial-delivery-count") uint optional ∷
    field (codes "max-message-size") spanned optional ∷
    field (codes "offered-capabilities") spanned optional ∷
    field (codes "desired-capabilities") spanned optional ∷
    field (codes "properties") spanned optional ∷
    []

-- [2.7.4]
abbrev pub flow_fields : List Field
flow_fields =
    field (codes "next-incoming-id") uint optional ∷
    field (codes "incoming-window") uint mandatory ∷
    field (codes "next-outgoing-id") uint mandatory ∷
    field (codes "outgoing-window") uint mandatory ∷
    field (codes "handle") uint optional ∷
    field (codes "delivery-count") uint optional ∷
    field (codes "link-credit") uint optional ∷
    field (codes "available") uint optional ∷
    field (codes "drain") boolean (default 0) ∷
    field (codes "echo") boolean (default 0) ∷
    field (codes "properties") spanned optional ∷
    []

-- [2.7.5]
abbrev pub transfer_fields : List Field
transfer_fields =
    field (codes "handle") uint mandatory ∷
    field (codes "delivery-id") uint optional ∷
    field (codes "delivery-tag") binary optional ∷
    field (codes "message-format") uint optional ∷
    field (codes "settled") boolean optional ∷
    field (codes "more") boolean (default 0) ∷
    field (codes "rcv-settle-mode") receiver_settle_mode optional ∷
    field (codes "state") spanned optional ∷
    field (codes "resume") boolean (default 0) ∷
    field (codes "aborted") boolean (default 0) ∷
    field (codes "batchable") spanned optional ∷
    []

-- [2.7.6]
abbrev pub disposition_fields : List Field
disposition_fields =
    field (codes "role") boolean mandatory ∷
    field (codes "first") uint mandatory ∷
    field (codes "last") uint optional ∷
    field (codes "settled") boolean (default 0) ∷
    field (codes "state") spanned optional ∷
    field (codes "batchable") spanned optional ∷
    []

-- [2.7.7]
abbrev pub detach_fields : List Field
detach_fields =
    field (codes "handle") uint mandatory ∷
    field (codes "closed") boolean (default 0) ∷
    field (codes "error") spanned optional ∷
    []

-- [2.7.8]
abbrev pub end_fields : List Field
end_fields = field (codes "error") spanned optional ∷ []

-- [2.7.9]
abbrev pub close_fields : List Field
close_fields = field (codes "error") spanned optional ∷ []

-- the fields of a list with this descriptor, if it is a performative
abbrev pub fields_of : Descriptor → Option (List Field)
fields_of of_type.Open = Some open_fields
fields_of of_type.Begin = Some begin_fields
fields_of of_type.Attach = Some attach_fields
fields_of of_type.Flow = Some flow_fields
fields_of of_type.Transfer = Some transfer_fields
fields_of of_type.Disposition = Some disposition_fields
fields_of of_type.Detach = Some detach_fields
fields_of of_type.End = Some end_fields
fields_of of_type.Close = Some close_fields
fields_of _ = None
