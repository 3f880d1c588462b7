-- What the outermost cases of the values of a target say.
use Rattle.std.proofs.Common.{◌≡◌, ◌≢◌, ℕ, zero, suc, ◌-◌, ◌≤◌, Bool, true, false, if◌then◌else◌, List, [], ◌∷◌, None, ◌++◌, refl, ap, ◌∙◌, Ok, arith}
use Rattle.amqp_types.specs.declared.kind.Kind.{Kind}
use Rattle.amqp_types.specs.declared.kind.Kind.TheVariants as kind
use Rattle.amqp_types.specs.declared.peeked.Peek.{Peek}
use Rattle.amqp_types.specs.declared.peeked.Peek.TheVariants as peek
use Rattle.amqp_types.specs.Peeks.{IsOutermost, IsOther, IsOtherNumber, IsUnsigned}
use Rattle.amqp_types.specs.Reading.{value_of}
use Rattle.amqp_types.specs.Spelling.{Spells, SpellAll}
use Rattle.amqp_types.specs.Trees.{Tree, Number, Octets, ListOf, MapOf, ArrayOf, Described, Trees, none, more, depth_of}
use Rattle.amqp_perform.specs.Addresses.{OtherNode, describes_target, node_by, field_in, node_in_list, node_in, node_read, target_node}
use Rattle.amqp_perform.specs.Outcomes.{is_true_tree}
use Rattle.amqp_perform.specs.Targets.{BeginsWith, SpellItems, peeks_true, peeks_node}

-- The boolean true. ---------------------------------------------------------------------------------------------------

true_by : (b : Bool) → is_true_tree (Number kind.Boolean (if b then 1 else 0)) ≡ b
true_by true = refl
true_by false = refl

true_by_kind : (k : Kind) (n : ℕ) → IsUnsigned k → is_true_tree (Number k n) ≡ false
true_by_kind kind.Boolean n is = absurd is
true_by_kind _ n is = refl

true_of_number : (k : Kind) (n : ℕ) → IsOtherNumber k → is_true_tree (Number k n) ≡ false
true_of_number kind.Boolean n is = absurd is
true_of_number _ n is = refl

true_of_other : (t : Tree) → IsOther t → is_true_tree t ≡ false
true_of_other (Number k n) is = true_of_number k n is
true_of_other (Octets k octets) is = absurd is
true_of_other (ListOf ts) is = absurd is
true_of_other (MapOf ps) is = refl
true_of_other (ArrayOf ds k ts) is = refl
true_of_other (Described d t) is = absurd is

pub true_peeked : (t : Tree) (text : List ℕ) (p : Peek) → IsOutermost t text p → is_true_tree t ≡ peeks_true p
true_peeked t text peek.Null is = ap is_true_tree is
true_peeked t text (peek.Boolean b) is = ap is_true_tree is ∙ true_by b
true_peeked t text (peek.Unsigned k n) is = ap is_true_tree is.0 ∙ true_by_kind k n is.1
true_peeked t text (peek.String octets) is = ap is_true_tree is.0
true_peeked t text (peek.Symbol octets) is = ap is_true_tree is.0
true_peeked t text (peek.Binary octets) is = ap is_true_tree is.0
true_peeked t text (peek.List count items) is = ap is_true_tree is.2
true_peeked t text (peek.Described first second) is = ap is_true_tree is.2
true_peeked t text peek.Other is = true_of_other t is

-- The address. --------------------------------------------------------------------------------------------------------

node_by_kind : (k : Kind) (n : ℕ) (b : Bool) → IsUnsigned k → node_by (Number k n) b ≡ OtherNode
node_by_kind kind.Null n b is = absurd is
node_by_kind _ n b is = refl

node_of_number : (k : Kind) (n : ℕ) (b : Bool) → IsOtherNumber k → node_by (Number k n) b ≡ OtherNode
node_of_number kind.Null n b is = absurd is
node_of_number _ n b is = refl

node_of_other : (t : Tree) (b : Bool) → IsOther t → node_by t b ≡ OtherNode
node_of_other (Number k n) b is = node_of_number k n b is
node_of_other (Octets k octets) b is = absurd is
node_of_other (ListOf ts) b is = absurd is
node_of_other (MapOf ps) b is = refl
node_of_other (ArrayOf ds k ts) b is = refl
node_of_other (Described d t) b is = absurd is

pub node_peeked : (t : Tree) (text : List ℕ) (p : Peek) (b : Bool) → IsOutermost t text p → node_by t b ≡ peeks_node p b
node_peeked t text peek.Null b is = ap (λ u. node_by u b) is
node_peeked t text (peek.Boolean a) b is = ap (λ u. node_by u b) is
node_peeked t text (peek.Unsigned k n) b is = ap (λ u. node_by u b) is.0 ∙ node_by_kind k n b is.1
node_peeked t text (peek.String octets) b is = ap (λ u. node_by u b) is.0
node_peeked t text (peek.Symbol octets) b is = ap (λ u. node_by u b) is.0
node_peeked t text (peek.Binary octets) b is = ap (λ u. node_by u b) is.0
node_peeked t text (peek.List count items) b is = ap (λ u. node_by u b) is.2
node_peeked t text (peek.Described first second) b is = ap (λ u. node_by u b) is.2
node_peeked t text peek.Other b is = node_of_other t b is

-- The items. ----------------------------------------------------------------------------------------------------------

-- if there is one, the bytes begin with it, and the others follow
pub items_of : (n : ℕ) (t : Tree) (ts : Trees) (items : List ℕ) → SpellItems n (more t ts) items
    → (first rest : List ℕ) × (items ≡ first ++ rest) × Spells t first × (depth_of t ≤ 30) × SpellItems (n - 1) ts rest
unfolding SpellAll
items_of n t ts items is = (is.1.0, is.1.1, is.1.2, is.1.3, omega (arith, is.2), (omega (arith, is.0), is.1.4, omega (arith, is.2)))

pub first_begins : (n : ℕ) (items : List ℕ) → ((ts : Trees) × SpellItems n ts items) → n ≢ 0 → (t : Tree) × BeginsWith t items
first_begins n items (none, is) some = absurd (some is.0)
first_begins n items (more t ts, is) some = let h = items_of n t ts items is in (t, (h.0, h.1, h.3, h.2, h.4))

pub field_after : (n : ℕ) (t : Tree) (ts : Trees) → n ≢ 0 → field_in n (more t ts) ≡ field_in (n - 1) ts
field_after zero t ts some = absurd (some refl)
field_after (suc n) t ts some = ap (λ m. field_in m ts) (omega arith)

-- The target. ---------------------------------------------------------------------------------------------------------

pub described_as : (d t : Tree) → describes_target d ≡ true → node_in_list t ≡ node_in (Described d t)
described_as d t e = rw e refl

pub read_as : (bytes : List ℕ) → (bytes ≡ [] → ⊥) → node_read (value_of 30 None bytes) ≡ target_node bytes
read_as [] some = absurd (some refl)
read_as (b ∷ bytes) some = refl

pub found_as : (t : Tree) (bytes rest : List ℕ) → value_of 30 None bytes ≡ Ok (t, None, rest) → node_in t ≡ node_read (value_of 30 None bytes)
found_as t bytes rest e = rw e refl
