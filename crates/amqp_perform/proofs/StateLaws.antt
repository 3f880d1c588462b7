-- Conditions and outcomes are found where they are spelled.
use Rattle.std.proofs.Common.{◌≡◌, ℕ, ◌≤◌, Bool, true, false, cond, List, [], ◌∷◌, ◌++◌, length, drop, Option, Some, refl, ap, ◌∙◌, arith}
use Rattle.std.specs.Option.{unwrap_or, option_map_or}
use Rattle.amqp_types.specs.declared.kind.Kind.TheVariants as kind
use Rattle.amqp_types.specs.Reading.{form_at, number_at, sized_at, block_at, count_at, item_by, value_by, inside}
use Rattle.amqp_types.specs.Trees.{Tree, Number, Octets, ListOf, depth_of, depth_of_all}
use Rattle.amqp_perform.specs.declared.condition.Condition.{Condition}
use Rattle.amqp_perform.specs.declared.condition.Condition.TheVariants as condition
use Rattle.amqp_perform.specs.declared.descriptor.Descriptor.{Descriptor}
use Rattle.amqp_perform.specs.declared.descriptor.Descriptor.TheVariants as of_type
use Rattle.amqp_perform.specs.declared.outcome.Outcome.{Outcome}
use Rattle.amqp_perform.specs.declared.outcome.Outcome.TheVariants as outcome
use Rattle.amqp_perform.specs.Cells.{Cell, Absent, Span, ◌>>=◌, is_null, typed_cell}
use Rattle.amqp_perform.specs.Conditions.{condition_span, found_by_name, cell_condition, condition_of, tree_condition, condition_in}
use Rattle.amqp_perform.specs.Descriptors.{by_code}
use Rattle.amqp_perform.specs.Items.{Item, trees_of, text_of, AreSpelled, SpellsDescribed}
use Rattle.amqp_perform.specs.Outcomes.{is_true, true_at, second_true, modified_by, outcome_span, outcome_of, outcome_by, is_true_tree, first_is_true, outcome_in}
use Rattle.amqp_perform.specs.BodyReading.{descriptor_at, list_at, described_at, typed_at}
use Rattle.amqp_perform.specs.Tables.{FieldType, boolean, symbol, spanned}
use Rattle.amqp_perform.proofs.ItemLaws.{item_again}
use Rattle.amqp_perform.proofs.ListLaws.{list_of_items, described}

-- an item that is there is read
given : (type : FieldType) (x : Item) (xs : List Item) → AreSpelled (x ∷ xs) → depth_of_all (trees_of (x ∷ xs)) ≤ 30
    → typed_at type (length (x ∷ xs)) (text_of (x ∷ xs)) ≡ (typed_cell type x >>= λ c. Some (c, length xs, text_of xs))
unfolding typed_at
given type x xs spelled deep = rw (item_again x.tree x.text (text_of xs) spelled.0 (omega (arith, deep))) refl

-- Conditions. ---------------------------------------------------------------------------------------------------------

named : (x : Item) (n : ℕ) (rest : List ℕ) → unwrap_or ((typed_cell symbol x >>= λ c. Some (c, n, rest)) >>= λ (read : Cell × ℕ × List ℕ). Some (cell_condition read.0)) condition.Other ≡
    tree_condition x.tree
named x n rest = by x.tree
  where
    by : (t : Tree) → unwrap_or ((typed_cell symbol (record { tree = t; text = x.text }) >>= λ c. Some (c, n, rest)) >>= λ (read : Cell × ℕ × List ℕ). Some (cell_condition read.0)) condition.Other ≡
        tree_condition t
    by (Number kind.Null n) = refl
    by (Octets kind.Symbol name) = refl
    by _ = refl

first_names : (items : List Item) → AreSpelled items → depth_of_all (trees_of items) ≤ 30
    → unwrap_or (typed_at symbol (length items) (text_of items) >>= λ read. Some (cell_condition read.0)) condition.Other ≡ condition_in items
unfolding typed_at
first_names [] spelled deep = refl
first_names (x ∷ xs) spelled deep =
    ap (λ (o : Option (Cell × ℕ × List ℕ)). unwrap_or (o >>= λ read. Some (cell_condition read.0)) condition.Other) (given symbol x xs spelled deep) ∙ named x (length xs) (text_of xs)

-- the condition of an error that is spelled is that of its first field
pub condition_found : (items : List Item) (text rest : List ℕ) → SpellsDescribed of_type.Error items text → depth_of (ListOf (trees_of items)) ≤ 31 → condition_of (text ++ rest) ≡ condition_in items
unfolding condition_of described_at
condition_found items text rest h deep =
    let d = described of_type.Error items text rest h in
    rw (d.head, d.list) (first_names items d.spelled (omega (arith, deep)))

-- Outcomes. -----------------------------------------------------------------------------------------------------------

truth : (x : Item) (n : ℕ) (rest : List ℕ) → is_true (typed_cell boolean x >>= λ c. Some (c, n, rest)) ≡ is_true_tree x.tree
truth x n rest = by x.tree
  where
    by : (t : Tree) → is_true (typed_cell boolean (record { tree = t; text = x.text }) >>= λ c. Some (c, n, rest)) ≡ is_true_tree t
    by (Number kind.Null n) = refl
    by (Number kind.Boolean n) = refl
    by _ = refl

first_is : (items : List Item) → AreSpelled items → depth_of_all (trees_of items) ≤ 30 → true_at (length items) (text_of items) ≡ first_is_true items
unfolding typed_at true_at
first_is [] spelled deep = refl
first_is (x ∷ xs) spelled deep = ap is_true (given boolean x xs spelled deep) ∙ truth x (length xs) (text_of xs)

-- a value of any type is read, a null too
passed : (x : Item) (n : ℕ) (rest : List ℕ) → option_map_or (λ (y : Cell × ℕ × List ℕ). true_at y.1 y.2) (typed_cell spanned x >>= λ c. Some (c, n, rest)) false ≡ true_at n rest
passed x n rest = by (is_null x.tree)
  where
    by : (b : Bool) → option_map_or (λ (y : Cell × ℕ × List ℕ). true_at y.1 y.2) (cond b (Some Absent) (Some (Span x.text)) >>= λ c. Some (c, n, rest)) false ≡ true_at n rest
    by true = refl
    by false = refl

second_is : (items : List Item) → AreSpelled items → depth_of_all (trees_of items) ≤ 30 → second_true (length items) (text_of items) ≡ first_is_true (drop 1 items)
unfolding typed_at true_at second_true
second_is [] spelled deep = refl
second_is (x ∷ xs) spelled deep =
    ap (λ (o : Option (Cell × ℕ × List ℕ)). option_map_or (λ (y : Cell × ℕ × List ℕ). true_at y.1 y.2) o false) (given spanned x xs spelled deep)
    ∙ passed x (length xs) (text_of xs)
    ∙ first_is xs spelled.1 (omega (arith, deep))

by_descriptor : (d : Descriptor) (items : List Item) (second rest : List ℕ) → list_at second ≡ Some (list_of_items items rest) → AreSpelled items → depth_of_all (trees_of items) ≤ 30 →
    outcome_by d second ≡ outcome_in d items
unfolding modified_by
by_descriptor of_type.Modified items second rest list spelled deep = rw (list, first_is items spelled deep, second_is items spelled deep) refl
by_descriptor _ items second rest list spelled deep = refl

-- the outcome of a state that is spelled is that of its descriptor and flags
pub outcome_found : (d : Descriptor) (items : List Item) (text rest : List ℕ) → SpellsDescribed d items text → depth_of (ListOf (trees_of items)) ≤ 31 → outcome_of (text ++ rest) ≡ outcome_in d items
unfolding outcome_of
outcome_found d items text rest h deep =
    let parts = described d items text rest h in
    rw parts.head (by_descriptor d items parts.second rest parts.list parts.spelled (omega (arith, deep)))

-- What is written is read, by computation. ----------------------------------------------------------------------------

-- a condition is found in its own span
pub condition_again : (c : Condition) → condition_of (condition_span c) ≡ c
unfolding condition_of condition_span found_by_name by_code described_at descriptor_at list_at typed_at value_by inside item_by number_at form_at sized_at block_at count_at
condition_again condition.Other = refl
condition_again _ = refl

-- so is an outcome
pub outcome_again : (o : Outcome) → outcome_of (outcome_span o) ≡ Some o
unfolding outcome_of outcome_span modified_by true_at second_true by_code descriptor_at list_at typed_at value_by inside item_by number_at form_at block_at count_at
outcome_again (outcome.Modified true true) = refl
outcome_again (outcome.Modified true false) = refl
outcome_again (outcome.Modified false true) = refl
outcome_again (outcome.Modified false false) = refl
outcome_again _ = refl
