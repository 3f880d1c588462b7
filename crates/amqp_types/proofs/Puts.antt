-- Scalars written at the front of a buffer.
use Rattle.std.proofs.Common.{◌≡◌, ℕ, ◌+◌, ◌^◌, ◌<◌, ◌≤◌, Bool, cond, List, [], ◌∷◌, ◌++◌, length, take, drop, Option, Some, None, refl, sym, ap, subst, ◌∙◌, arith}
use Rattle.std.specs.Prelude.{IfSome, slice_index}
use Rattle.std.proofs.lemmas.Bool.{lt-ltb}
use Rattle.std.proofs.lemmas.List.{drop-drop}
use Rattle.amqp_types.specs.declared.kind.Kind.{Kind}
use Rattle.amqp_types.specs.declared.kind.Kind.TheVariants as kind
use Rattle.amqp_types.specs.declared.peeked.Peek.{Peek}
use Rattle.amqp_types.specs.declared.peeked.Peek.TheVariants as peek
use Rattle.amqp_types.specs.Canonical.{canonical, IsOfOctets, IsRanged}
use Rattle.amqp_types.specs.Kinds.{width}
use Rattle.amqp_types.specs.Peeks.{IsUnsigned, IsScalarOf, IsPut}
use Rattle.amqp_types.specs.Spelling.{Spells, AreOctetsOf}
use Rattle.amqp_types.specs.Trees.{Tree, Number, Octets}
use Rattle.amqp_types.proofs.Canons.{canonical_spells}

-- what is behind two writes, the later one behind the other
behind_both : (m n : ℕ) (old a b : List ℕ) → drop m a ≡ drop m old → drop (m + n) b ≡ drop (m + n) a → drop (m + n) b ≡ drop (m + n) old
behind_both m n old a b first second = second ∙ sym (drop-drop n m a) ∙ ap (drop n) first ∙ drop-drop n m old

-- a code, a size and bytes put one behind the other
pub parts_put : (code : ℕ) (size bytes old a b new : List ℕ) → 1 + length size + length bytes ≤ length old
    → take 1 a ≡ code ∷ [] → drop 1 a ≡ drop 1 old
    → take (1 + length size) b ≡ take 1 a ++ size → drop (1 + length size) b ≡ drop (1 + length size) a
    → take (1 + length size + length bytes) new ≡ take (1 + length size) b ++ bytes → drop (1 + length size + length bytes) new ≡ drop (1 + length size + length bytes) b
    → IsPut (code ∷ (size ++ bytes)) old new (1 + length size + length bytes)
parts_put code size bytes old a b new le front_a back_a front_b back_b front back = (
  le,
  front ∙ ap (λ (x : List ℕ). x ++ bytes) (front_b ∙ ap (λ (x : List ℕ). x ++ size) front_a),
  behind_both (1 + length size) (length bytes) old b new (behind_both 1 (length size) old a b back_a back_b) back,
)

-- ---- what is put spells its value

unsigned_ranged : (k : Kind) (n : ℕ) → IsUnsigned k → n < 256 ^ width k → IsRanged (Number k n)
unsigned_ranged kind.Ubyte n is lt = (λ e. absurd cc, lt, tt)
unsigned_ranged kind.Ushort n is lt = (λ e. absurd cc, lt, tt)
unsigned_ranged kind.Uint n is lt = (λ e. absurd cc, lt, tt)
unsigned_ranged kind.Ulong n is lt = (λ e. absurd cc, lt, tt)
unsigned_ranged _ n is lt = absurd is

-- the canonical null spells it
pub null_spelled : Spells (Number kind.Null 0) (canonical (Number kind.Null 0))
null_spelled = canonical_spells (Number kind.Null 0) tt (λ e. absurd cc, omega arith, tt) tt

-- so does a boolean
pub boolean_spelled : (n : ℕ) → n < 2 → Spells (Number kind.Boolean n) (canonical (Number kind.Boolean n))
boolean_spelled n lt = canonical_spells (Number kind.Boolean n) tt (λ e. absurd cc, omega arith, lt) tt

-- and an unsigned number
pub unsigned_spelled : (k : Kind) (n : ℕ) → IsUnsigned k → n < 256 ^ width k → Spells (Number k n) (canonical (Number k n))
unsigned_spelled k n is lt = canonical_spells (Number k n) tt (unsigned_ranged k n is lt) tt

octets_spelled : (k : Kind) (octets : List ℕ) → IsOfOctets k → ((i : ℕ) → slice_index octets i < 256) → AreOctetsOf k octets → length octets < 2 ^ 32 →
    Spells (Octets k octets) (canonical (Octets k octets))
octets_spelled k octets is bytes of_kind few = canonical_spells (Octets k octets) tt (is, bytes, of_kind) (lt-ltb (length octets) (2 ^ 32) few)

-- a boolean in hand is its case
pub boolean_scalar : (b is_true : Bool) (value : Peek) → b ≡ is_true → value ≡ peek.Boolean b → IsScalarOf (Number kind.Boolean (cond is_true 1 0)) value
boolean_scalar b is_true value same is =
    subst (λ (p : Peek). IsScalarOf (Number kind.Boolean (cond is_true 1 0)) p) (sym (is ∙ ap peek.Boolean same)) refl

-- what is put of a case spells it
abbrev pub IsPutOf : Peek → List ℕ → List ℕ → ℕ → Type 0
IsPutOf value old new n = (t : Tree) × IsScalarOf t value × Spells t (canonical t) × IsPut (canonical t) old new n

-- what is put canonically spells a scalar
pub scalar_put : (r : Option ℕ) (value : Peek) (t : Tree) (old new : List ℕ) → IsScalarOf t value → Spells t (canonical t) → IfSome r (IsPut (canonical t) old new) → IfSome r (IsPutOf value old new)
scalar_put None value t old new is spelled h = tt
scalar_put (Some n) value t old new is spelled h = (t, is, spelled, h)

-- so does what is put of bytes
pub octets_put : (r : Option ℕ) (value : Peek) (k : Kind) (octets old new : List ℕ) → IsOfOctets k → AreOctetsOf k octets → ((i : ℕ) → slice_index octets i < 256) →
    (length octets < 2 ^ 32 → IsScalarOf (Octets k octets) value)
    → IfSome r (λ n. length octets < 2 ^ 32) → IfSome r (IsPut (canonical (Octets k octets)) old new) → IfSome r (IsPutOf value old new)
octets_put None value k octets old new is of_kind bytes scalar few h = tt
octets_put (Some n) value k octets old new is of_kind bytes scalar few h = (Octets k octets, scalar few, octets_spelled k octets is bytes of_kind few, h)
