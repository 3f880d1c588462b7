-- Described lists, as the bodies of frames are. [1.4, 5.3.1]
use Rattle.std.specs.Prelude.{◌≡◌, ℕ, ◌≤◌, ◌==◌, Bool, false, if◌then◌else◌, List, [], ◌∷◌, Option, Some, None, Ok, Err}
use Rattle.std.specs.Str.{bytes_eq}
use Rattle.amqp_types.specs.declared.kind.Kind.{Kind}
use Rattle.amqp_types.specs.declared.kind.Kind.TheVariants as kind
use Rattle.amqp_types.specs.declared.peeked.Peek.{Peek}
use Rattle.amqp_types.specs.declared.peeked.Peek.TheVariants as peek
use Rattle.amqp_types.specs.Reading.{Part, value_of}
use Rattle.amqp_types.specs.Spelling.{SpellAll}
use Rattle.amqp_types.specs.Trees.{Tree, Number, Octets, ListOf, Described, Trees, none, more, count_of, depth_of_all}
use Rattle.amqp_sasl.specs.declared.fields.Items.{Items}

-- a symbol, which has to be there
abbrev pub symbol_in : Tree → Option (List ℕ)
symbol_in (Octets kind.Symbol octets) = Some octets
symbol_in _ = None

-- a binary that may be absent: a null is an absent field [1.4]
abbrev pub binary_in : Tree → Option (Option (List ℕ))
binary_in (Number kind.Null n) = Some None
binary_in (Octets kind.Binary octets) = Some (Some octets)
binary_in _ = None

-- a string that may be absent
abbrev pub text_in : Tree → Option (Option (List ℕ))
text_in (Number kind.Null n) = Some None
text_in (Octets kind.String octets) = Some (Some octets)
text_in _ = None

-- a field that has to be there
abbrev pub present : Option (Option (List ℕ)) → Option (List ℕ)
present (Some field) = field
present None = None

-- the first item of a list; an item that is not there is a null [1.4]
abbrev pub first_of : Trees → Tree
first_of none = Number kind.Null 0
first_of (more t ts) = t

abbrev pub others_of : Trees → Trees
others_of none = none
others_of (more t ts) = ts

-- whether a descriptor is this code, a ulong, or this name, a symbol
abbrev pub is_code : ℕ → Kind → ℕ → Bool
is_code code kind.Ulong n = n == code
is_code code _ n = false

abbrev pub names : ℕ → List ℕ → Tree → Bool
names code name (Number k n) = is_code code k n
names code name (Octets kind.Symbol octets) = bytes_eq octets name
names code name _ = false

abbrev pub items_of : Tree → Option Trees
items_of (ListOf ts) = Some ts
items_of _ = None

-- the items of the list that is described so
abbrev pub items_in : ℕ → List ℕ → Tree → Option Trees
items_in code name (Described d t) = if names code name d then items_of t else None
items_in code name _ = None

-- the body is exactly one value [5.3.1]
abbrev pub alone : ℕ → List ℕ → Tree → List ℕ → Option Trees
alone code name t [] = items_in code name t
alone code name t (b ∷ rest) = None

abbrev pub items_from : ℕ → List ℕ → Part Tree → Option Trees
items_from code name (Ok x) = alone code name x.0 x.2
items_from code name (Err e) = None

-- The items of the list that the body of a frame is, if it is described so. It has two levels: the described value and its list.
unfoldable pub items_at : ℕ → List ℕ → List ℕ → Option Trees
items_at code name body = items_from code name (value_of 2 None body)

-- the outermost case of a value as each type of field
abbrev pub peeked_symbol : Peek → Option (List ℕ)
peeked_symbol (peek.Symbol octets) = Some octets.now
peeked_symbol _ = None

abbrev pub peeked_binary : Peek → Option (Option (List ℕ))
peeked_binary peek.Null = Some None
peeked_binary (peek.Binary octets) = Some (Some octets.now)
peeked_binary _ = None

abbrev pub peeked_text : Peek → Option (Option (List ℕ))
peeked_text peek.Null = Some None
peeked_text (peek.String text) = Some (Some text.now)
peeked_text _ = None

-- the bytes spell these items, which hold no others
pub record AreItems (ts : Trees) (left : ℕ) (bytes : List ℕ) : Type 0 where
  pub count : left ≡ count_of ts
  pub spelled : SpellAll ts bytes
  pub flat : depth_of_all ts ≤ 0

-- what a call returns are the items that are read
abbrev pub AreRead : Option Items → Option Trees → Type 0
AreRead None read = read ≡ None
AreRead (Some items) read = (ts : Trees) × (read ≡ Some ts) × AreItems ts items.left items.bytes.now

-- a value is what is peeked at, as far as a field may be it
pub record Shows (t : Tree) (p : Peek) : Type 0 where
  pub symbol : symbol_in t ≡ peeked_symbol p
  pub binary : binary_in t ≡ peeked_binary p
  pub text : text_in t ≡ peeked_text p

-- the first item was taken, and the others are left
abbrev pub IsTaken : Trees → Option Peek → ℕ → List ℕ → Type 0
IsTaken ts None left bytes = ⊥
IsTaken ts (Some p) left bytes = Shows (first_of ts) p × AreItems (others_of ts) left bytes
