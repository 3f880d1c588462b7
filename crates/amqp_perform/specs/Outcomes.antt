-- Delivery states that are outcomes. [3.4]
use Rattle.std.specs.Prelude.{ℕ, Bool, true, false, ◌==◌, List, [], ◌∷◌, drop, Option, Some, None}
use Rattle.std.specs.Option.{option_map_or}
use Rattle.amqp_types.specs.declared.kind.Kind.TheVariants as kind
use Rattle.amqp_types.specs.Canonical.{canonical}
use Rattle.amqp_types.specs.Trees.{Tree, Number, ListOf, Described, Trees, none, more}
use Rattle.amqp_perform.specs.declared.descriptor.Descriptor.{Descriptor}
use Rattle.amqp_perform.specs.declared.descriptor.Descriptor.TheVariants as of_type
use Rattle.amqp_perform.specs.declared.outcome.Outcome.{Outcome}
use Rattle.amqp_perform.specs.declared.outcome.Outcome.TheVariants as outcome
use Rattle.amqp_perform.specs.Cells.{Cell, flag_in, ◌>>=◌}
use Rattle.amqp_perform.specs.Descriptors.{code_of, described_by}
use Rattle.amqp_perform.specs.Items.{Item}
use Rattle.amqp_perform.specs.BodyReading.{ListAt, descriptor_at, typed_at, list_at}
use Rattle.amqp_perform.specs.Tables.{boolean, spanned}

abbrev pub true_tree : Tree
true_tree = Number kind.Boolean 1

abbrev pub null_tree : Tree
null_tree = Number kind.Null 0

-- the fields delivery-failed and undeliverable-here; a false one is absent [3.4.5]
abbrev pub flag_trees : Bool → Bool → Trees
flag_trees false false = none
flag_trees true false = more true_tree none
flag_trees false true = more null_tree (more true_tree none)
flag_trees true true = more true_tree (more true_tree none)

abbrev pub state_text : Descriptor → Trees → List ℕ
state_text d fields = canonical (Described (Number kind.Ulong (code_of d)) (ListOf fields))

unfoldable pub outcome_span : Outcome → List ℕ
outcome_span outcome.Accepted = state_text of_type.Accepted none
outcome_span outcome.Rejected = state_text of_type.Rejected none
outcome_span outcome.Released = state_text of_type.Released none
outcome_span (outcome.Modified failed undeliverable) = state_text of_type.Modified (flag_trees failed undeliverable)

abbrev pub is_true : Option (Cell × ℕ × List ℕ) → Bool
is_true read = option_map_or (λ (x : Cell × ℕ × List ℕ). flag_in x.0) read false

-- whether the next item, of this many, is a boolean that is true
unfoldable pub true_at : ℕ → List ℕ → Bool
true_at left bytes = is_true (typed_at boolean left bytes)

-- whether the item after it is a boolean that is true
unfoldable pub second_true : ℕ → List ℕ → Bool
second_true left bytes = option_map_or (λ (x : Cell × ℕ × List ℕ). true_at x.1 x.2) (typed_at spanned left bytes) false

unfoldable pub modified_by : Option ListAt → Outcome
modified_by None = outcome.Modified false false
modified_by (Some list) = outcome.Modified (true_at list.count list.items) (second_true list.count list.items)

abbrev pub outcome_by : Descriptor → List ℕ → Option Outcome
outcome_by of_type.Accepted rest = Some outcome.Accepted
outcome_by of_type.Rejected rest = Some outcome.Rejected
outcome_by of_type.Released rest = Some outcome.Released
outcome_by of_type.Modified rest = Some (modified_by (list_at rest))
outcome_by _ rest = None

-- the outcome of a state, by its descriptor
unfoldable pub outcome_of : List ℕ → Option Outcome
outcome_of text = descriptor_at text >>= λ x. outcome_by x.0 x.1

-- whether a value is the boolean true
abbrev pub is_true_tree : Tree → Bool
is_true_tree (Number kind.Boolean n) = n == 1
is_true_tree _ = false

-- whether the first of these items is the boolean true
abbrev pub first_is_true : List Item → Bool
first_is_true [] = false
first_is_true (x ∷ xs) = is_true_tree x.tree

-- the outcome of a list of these items, described as of the type [3.4]
abbrev pub outcome_in : Descriptor → List Item → Option Outcome
outcome_in of_type.Accepted xs = Some outcome.Accepted
outcome_in of_type.Rejected xs = Some outcome.Rejected
outcome_in of_type.Released xs = Some outcome.Released
outcome_in of_type.Modified xs = Some (outcome.Modified (first_is_true xs) (first_is_true (drop 1 xs)))
outcome_in _ xs = None

-- a value that is described as one of the four, whatever it is [3.4]
abbrev pub is_state_type : Option Descriptor → Bool
is_state_type (Some of_type.Accepted) = true
is_state_type (Some of_type.Rejected) = true
is_state_type (Some of_type.Released) = true
is_state_type (Some of_type.Modified) = true
is_state_type _ = false

abbrev pub is_state : Tree → Bool
is_state (Described d t) = is_state_type (described_by d)
is_state _ = false
