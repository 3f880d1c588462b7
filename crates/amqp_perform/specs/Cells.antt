-- What a field holds, and how it comes from an item. [1.4, 2.7]
use Rattle.std.specs.Prelude.{ℕ, ◌==◌, Bool, true, false, nat_le, if◌then◌else◌, List, [], ◌∷◌, Option, Some, None, unwrap_or}
use Rattle.amqp_types.specs.declared.kind.Kind.TheVariants as kind
use Rattle.amqp_types.specs.Trees.{Tree, Number, Octets}
use Rattle.amqp_perform.specs.Items.{Item}
use Rattle.amqp_perform.specs.Tables.{FieldType, boolean, ubyte_to, ushort, uint_from, binary, string, symbol, spanned, Absence, mandatory, optional, default, Field}

pub data Cell : Type 0 where
  Absent : Cell
  -- a number; a boolean's is 0 or 1
  Whole : ℕ → Cell
  -- the bytes of a binary, a string or a symbol
  Bytes : List ℕ → Cell
  -- the bytes that spell a value of any type
  Span : List ℕ → Cell

-- the number that a field holds, or none
abbrev pub number_in : Cell → Option ℕ
number_in (Whole n) = Some n
number_in _ = None

-- the number that a field holds; 0 if it is absent
abbrev pub whole_in : Cell → ℕ
whole_in c = unwrap_or (number_in c) 0

-- whether a field holds the boolean true
abbrev pub flag_in : Cell → Bool
flag_in c = whole_in c == 1

-- the span that a field holds; nothing if it is absent
abbrev pub span_in : Cell → List ℕ
span_in (Span text) = text
span_in _ = []

infixl 10 ◌>>=◌
abbrev pub ◌>>=◌ : {A B : Type 0} → Option A → (A → Option B) → Option B
(Some x) >>= f = f x
None >>= f = None

-- a value, if it passes
abbrev pub where_so : {A : Type 0} → Bool → A → Option A
where_so b x = if b then Some x else None

abbrev pub is_null : Tree → Bool
is_null (Number kind.Null n) = true
is_null _ = false

-- what a value other than null is in a field of the type, if it is of that type
abbrev pub value_cell : FieldType → Tree → List ℕ → Option Cell
value_cell boolean (Number kind.Boolean n) text = Some (Whole n)
value_cell (ubyte_to most) (Number kind.Ubyte n) text = where_so (nat_le n most) (Whole n)
value_cell ushort (Number kind.Ushort n) text = Some (Whole n)
value_cell (uint_from least) (Number kind.Uint n) text = where_so (nat_le least n) (Whole n)
value_cell binary (Octets kind.Binary octets) text = Some (Bytes octets)
value_cell string (Octets kind.String octets) text = Some (Bytes octets)
value_cell symbol (Octets kind.Symbol octets) text = Some (Bytes octets)
value_cell spanned t text = Some (Span text)
value_cell _ _ _ = None

-- what an item is in a field of the type: a null is an absent field
abbrev pub typed_cell : FieldType → Item → Option Cell
typed_cell type x = if is_null x.tree then Some Absent else value_cell type x.tree x.text

-- what an absent field is
abbrev pub absent_cell : Absence → Option Cell
absent_cell mandatory = None
absent_cell optional = Some Absent
absent_cell (default n) = Some (Whole n)

-- what is read in a field, whether it is absent or not
abbrev pub with_absence : Absence → Cell → Option Cell
with_absence absence Absent = absent_cell absence
with_absence absence c = Some c

abbrev pub field_cell : Field → Item → Option Cell
field_cell f x = typed_cell f.type x >>= with_absence f.absence

-- the fields of a list of items; none if one is wrong, or if there are more items than fields
abbrev pub cells_of : List Field → List Item → Option (List Cell)
cells_of [] [] = Some []
cells_of [] (x ∷ xs) = None
cells_of (f ∷ fs) [] = absent_cell f.absence >>= λ c. cells_of fs [] >>= λ cs. Some (c ∷ cs)
cells_of (f ∷ fs) (x ∷ xs) = field_cell f x >>= λ c. cells_of fs xs >>= λ cs. Some (c ∷ cs)
