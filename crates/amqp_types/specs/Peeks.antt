-- The outermost case of a value, with its parts as they are spelled. [1.1; 1.2]
use Rattle.std.specs.Prelude.{◌≡◌, ℕ, ◌^◌, ◌<◌, ◌≤◌, if◌then◌else◌, List, ◌∷◌, ◌++◌, length, take, drop, Some, Result, Ok, Err}
use Rattle.std.specs.Str.{IsAscii}
use Rattle.amqp_types.specs.declared.kind.Kind.{Kind}
use Rattle.amqp_types.specs.declared.kind.Kind.TheVariants as kind
use Rattle.amqp_types.specs.declared.code.Constructor.{Constructor}
use Rattle.amqp_types.specs.declared.fault.ReadFault.{ReadFault}
use Rattle.amqp_types.specs.declared.peeked.Peek.{Peek}
use Rattle.amqp_types.specs.declared.peeked.Peek.TheVariants as peek
use Rattle.amqp_types.specs.Codes.{find_code}
use Rattle.amqp_types.specs.Kinds.{width}
use Rattle.amqp_types.specs.Spelling.{Spells, SpellAll}
use Rattle.amqp_types.specs.Trees.{Tree, Number, Octets, ListOf, MapOf, ArrayOf, Described, Trees, count_of}

-- the bytes begin with the spelling of some value
abbrev pub BeginsWithValue : List ℕ → Type 0
BeginsWithValue bytes = (t : Tree) × (text rest : List ℕ) × Spells t text × (bytes ≡ text ++ rest)

-- the kinds of unsigned numbers [1.6.3 to 1.6.6]
abbrev pub IsUnsigned : Kind → Type 0
IsUnsigned kind.Ubyte = Unit {0}
IsUnsigned kind.Ushort = Unit {0}
IsUnsigned kind.Uint = Unit {0}
IsUnsigned kind.Ulong = Unit {0}
IsUnsigned _ = ⊥

-- the value is this scalar case; its number is valid for its kind, or it has less than 2^32 bytes
abbrev pub IsScalarOf : Tree → Peek → Type 0
IsScalarOf t peek.Null = t ≡ Number kind.Null 0
IsScalarOf t (peek.Boolean b) = t ≡ Number kind.Boolean (if b then 1 else 0)
IsScalarOf t (peek.Unsigned k n) = (t ≡ Number k n) × IsUnsigned k × (n < 256 ^ width k)
IsScalarOf t (peek.String text) = (t ≡ Octets kind.String text.now) × (length text.now < 2 ^ 32)
IsScalarOf t (peek.Symbol octets) = (t ≡ Octets kind.Symbol octets.now) × IsAscii octets.now × (length octets.now < 2 ^ 32)
IsScalarOf t (peek.Binary octets) = (t ≡ Octets kind.Binary octets.now) × (length octets.now < 2 ^ 32)
IsScalarOf t (peek.List count items) = ⊥
IsScalarOf t (peek.Described descriptor described) = ⊥
IsScalarOf t peek.Other = ⊥

-- numbers that are neither null nor boolean nor unsigned
abbrev pub IsOtherNumber : Kind → Type 0
IsOtherNumber kind.Null = ⊥
IsOtherNumber kind.Boolean = ⊥
IsOtherNumber kind.Ubyte = ⊥
IsOtherNumber kind.Ushort = ⊥
IsOtherNumber kind.Uint = ⊥
IsOtherNumber kind.Ulong = ⊥
IsOtherNumber _ = Unit {0}

-- values that have no case of their own
abbrev pub IsOther : Tree → Type 0
IsOther (Number k n) = IsOtherNumber k
IsOther (Octets k octets) = ⊥
IsOther (ListOf ts) = ⊥
IsOther (MapOf ps) = Unit {0}
IsOther (ArrayOf ds k ts) = Unit {0}
IsOther (Described d t) = ⊥

-- the case is the outermost one of a value that has this spelling
abbrev pub IsOutermost : Tree → List ℕ → Peek → Type 0
-- the spellings of a list's items are at the end of the list's own
IsOutermost t text (peek.List count items) =
    (ts : Trees) × (head : List ℕ) × (t ≡ ListOf ts) × (count ≡ count_of ts) × (text ≡ head ++ items.now) × SpellAll ts items.now
IsOutermost t text (peek.Described first second) =
    (d u : Tree) × (t ≡ Described d u) × (text ≡ 0 ∷ (first.now ++ second.now)) × Spells d first.now × Spells u second.now
IsOutermost t text peek.Other = IsOther t
IsOutermost t text scalar = IsScalarOf t scalar

-- the outermost case was found
abbrev pub IsCaseFound : Tree → List ℕ → Result Peek ReadFault → Type 0
IsCaseFound t text (Ok found) = IsOutermost t text found
IsCaseFound t text (Err fault) = ⊥

-- the outermost case was found of each value whose constructor is just before these bytes
abbrev pub IsFoundBehind : Constructor → List ℕ → Result Peek ReadFault → Type 0
IsFoundBehind c bytes result =
    (t : Tree) (code : ℕ) (data_ rest : List ℕ) → find_code code ≡ Some c → Spells t (code ∷ data_) → bytes ≡ data_ ++ rest
    → IsCaseFound t (code ∷ data_) result

-- the first n bytes of a buffer are now the text, and the others are as they were
abbrev pub IsPut : List ℕ → List ℕ → List ℕ → ℕ → Type 0
IsPut text old new n = (n ≤ length old) × (take n new ≡ text) × (drop n new ≡ drop n old)
