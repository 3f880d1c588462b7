-- Errors and their conditions. [2.8.14 to 2.8.18]
use Rattle.std.specs.Prelude.{ℕ, Bool, true, false, List, [], ◌∷◌, Option, Some, None, find, codes}
use Rattle.std.specs.Option.{unwrap_or}
use Rattle.std.specs.Str.{bytes_eq}
use Rattle.amqp_types.specs.declared.kind.Kind.TheVariants as kind
use Rattle.amqp_types.specs.Canonical.{canonical}
use Rattle.amqp_types.specs.Trees.{Tree, Number, Octets, ListOf, Described, none, more}
use Rattle.amqp_perform.specs.declared.condition.Condition.{Condition}
use Rattle.amqp_perform.specs.declared.condition.Condition.TheVariants as condition
use Rattle.amqp_perform.specs.declared.descriptor.Descriptor.{Descriptor}
use Rattle.amqp_perform.specs.declared.descriptor.Descriptor.TheVariants as of_type
use Rattle.amqp_perform.specs.Cells.{Cell, Bytes, ◌>>=◌}
use Rattle.amqp_perform.specs.Descriptors.{code_of, described_by}
use Rattle.amqp_perform.specs.Items.{Item}
use Rattle.amqp_perform.specs.BodyReading.{ListAt, described_at, typed_at}
use Rattle.amqp_perform.specs.Tables.{symbol}

abbrev pub name_of : Condition → List ℕ
name_of condition.FramingError = codes "amqp:connection:framing-error"
name_of condition.DecodeError = codes "amqp:decode-error"
name_of condition.InvalidField = codes "amqp:invalid-field"
name_of condition.IllegalState = codes "amqp:illegal-state"
name_of condition.NotImplemented = codes "amqp:not-implemented"
name_of condition.ResourceLimitExceeded = codes "amqp:resource-limit-exceeded"
name_of condition.FrameSizeTooSmall = codes "amqp:frame-size-too-small"
name_of condition.WindowViolation = codes "amqp:session:window-violation"
name_of condition.HandleInUse = codes "amqp:session:handle-in-use"
name_of condition.UnattachedHandle = codes "amqp:session:unattached-handle"
name_of condition.TransferLimitExceeded = codes "amqp:link:transfer-limit-exceeded"
name_of condition.MessageSizeExceeded = codes "amqp:link:message-size-exceeded"
name_of condition.Other = []

abbrev pub named_conditions : List Condition
named_conditions =
    condition.FramingError ∷ condition.DecodeError ∷ condition.InvalidField ∷ condition.IllegalState ∷ condition.NotImplemented
    ∷ condition.ResourceLimitExceeded ∷ condition.FrameSizeTooSmall ∷ condition.WindowViolation ∷ condition.HandleInUse
    ∷ condition.UnattachedHandle ∷ condition.TransferLimitExceeded ∷ condition.MessageSizeExceeded ∷ []

-- an error with a condition alone [2.8.14]
abbrev pub error_text : List ℕ → List ℕ
error_text name = canonical (Described (Number kind.Ulong (code_of of_type.Error)) (ListOf (more (Octets kind.Symbol name) none)))

unfoldable pub condition_span : Condition → List ℕ
condition_span condition.Other = []
condition_span c = error_text (name_of c)

-- the condition of a name
unfoldable pub found_by_name : List ℕ → Option Condition
found_by_name name = find (λ c. bytes_eq (name_of c) name) named_conditions

abbrev pub by_name : List ℕ → Condition
by_name name = unwrap_or (found_by_name name) condition.Other

-- the condition that a symbol names
abbrev pub cell_condition : Cell → Condition
cell_condition (Bytes name) = by_name name
cell_condition _ = condition.Other

-- the items of an error
abbrev pub error_items : Descriptor → ListAt → Option ListAt
error_items of_type.Error list = Some list
error_items _ list = None

-- the condition that comes first in an error
unfoldable pub condition_of : List ℕ → Condition
condition_of text =
    unwrap_or (described_at text >>= λ x. error_items x.0 x.1 >>= λ list. typed_at symbol list.count list.items >>= λ read. Some (cell_condition read.0)) condition.Other

-- the condition that a value names: that of a known symbol, and none for any other value
abbrev pub tree_condition : Tree → Condition
tree_condition (Octets kind.Symbol name) = by_name name
tree_condition _ = condition.Other

-- the condition of an error with these items, which is the first of them [2.8.14]
abbrev pub condition_in : List Item → Condition
condition_in [] = condition.Other
condition_in (x ∷ xs) = tree_condition x.tree

-- a list that is described as an error [2.8.14]
abbrev pub is_error_type : Option Descriptor → Bool
is_error_type (Some of_type.Error) = true
is_error_type _ = false

abbrev pub is_error : Tree → Bool
is_error (Described d (ListOf ts)) = is_error_type (described_by d)
is_error _ = false
