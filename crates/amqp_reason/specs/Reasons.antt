-- Why the application refuses a link or a message, or closes the connection, in its own words: the condition and the description of
-- an error. [part 1, 1.6; part 2, 2.8.14; part 3, 3.4.3]
use Rattle.std.specs.Prelude.{ℕ, Bool, true, ◌&&◌, nat_le, List, length, Option, Some, None, option_copied}
use Rattle.std.specs.List.{list_all}
use Rattle.std.specs.Str.{is_utf8}
use Rattle.amqp_types.specs.declared.kind.Kind.TheVariants as kind
use Rattle.amqp_types.specs.Canonical.{canonical}
use Rattle.amqp_types.specs.Trees.{Tree, Number, Octets, ListOf, Described, Trees, none, more}
use Rattle.amqp_perform.specs.declared.descriptor.Descriptor.TheVariants as of_type
use Rattle.amqp_perform.specs.Descriptors.{code_of}
use Rattle.amqp_perform.specs.Outcomes.{state_text}
use Rattle.amqp_reason.specs.declared.reason.Reason as given

-- The words. ----------------------------------------------------------------------------------------------------------

pub record Reason : Type 0 where
  pub condition : List ℕ
  pub description : Option (List ℕ)

abbrev pub reason_of : given.Reason → Reason
reason_of r = record { condition = r.condition.now; description = option_copied r.description }

-- a character of ASCII that is no control
abbrev pub is_printable : ℕ → Bool
is_printable byte = nat_le 32 byte && nat_le byte 126

-- a condition is a symbol of 1 to 64 printable characters [1.6.21, 2.8.14]
abbrev pub is_condition : List ℕ → Bool
is_condition symbol = nat_le 1 (length symbol) && nat_le (length symbol) 64 && list_all is_printable symbol

-- a description is a text of at most 255 bytes, or there is none [1.6.20, 2.8.14]
abbrev pub is_description : Option (List ℕ) → Bool
is_description None = true
is_description (Some text) = nat_le (length text) 255 && is_utf8 text

unfoldable pub is_valid : Reason → Bool
is_valid r = is_condition r.condition && is_description r.description

-- What is said of them. -----------------------------------------------------------------------------------------------

-- the description is left out if there is none [1.4]
abbrev pub description_trees : Option (List ℕ) → Trees
description_trees None = none
description_trees (Some text) = more (Octets kind.String text) none

-- an error with these words, and without more information [2.8.14]
abbrev pub error_tree : Reason → Tree
error_tree r = Described (Number kind.Ulong (code_of of_type.Error)) (ListOf (more (Octets kind.Symbol r.condition) (description_trees r.description)))

unfoldable pub error_span : Reason → List ℕ
error_span r = canonical (error_tree r)

-- the outcome rejected, with this error [3.4.3]
unfoldable pub rejected_span : Reason → List ℕ
rejected_span r = state_text of_type.Rejected (more (error_tree r) none)
