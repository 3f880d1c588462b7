-- The tables of the fields' readers.
use Rattle.std.proofs.Common.{◌≡◌, ℕ, Bool, ltb, List, [], ◌∷◌, length, drop, Option, Some, None, refl, arith}
use Rattle.std.proofs.Math.Dec.{leb}
use Rattle.std.proofs.lemmas.Bool.{le-leb}
use Rattle.byteorder.specs.Endian.{big_number}
use Rattle.amqp_types.specs.declared.kind.Kind.{Kind}
use Rattle.amqp_types.specs.declared.kind.Kind.TheVariants as kind
use Rattle.amqp_types.specs.declared.code.Form.TheVariants as form
use Rattle.amqp_types.specs.declared.code.SizeWidth.TheVariants as size
use Rattle.amqp_types.specs.Trees.{Octets}
use Rattle.amqp_types.specs.InHand.{outermost}
use Rattle.amqp_types.specs.Reading.{uncharged, number_at, form_at, sized_at, item_by, value_by, value_of}
use Rattle.amqp_perform.specs.Cells.{Absent, Whole, Bytes, ◌>>=◌, where_so, typed_cell}
use Rattle.amqp_perform.specs.BodyReading.{byte_at, word_at, short_at, long_at, code_at, typed_at}
use Rattle.amqp_perform.specs.Tables.{FieldType, boolean, ubyte_to, ushort, uint, binary, string, symbol}
use Rattle.amqp_perform.proofs.Behind.{checked, number_one, number_byte, number_full, boolean_byte, are_of, sized_is}
use Rattle.amqp_perform.proofs.Rows.{Row, typed_by, AreRead, null_read, read_by, number_row, octets_row}

abbrev null_row : Row
null_row = (0x40, λ rest. Some (Absent, rest))

-- Numbers. ------------------------------------------------------------------------------------------------------------

-- how each constructor of a boolean is read
abbrev pub boolean_rows : List Row
boolean_rows =
    null_row ∷ (0x41, λ rest. Some (Whole 1, rest)) ∷ (0x42, λ rest. Some (Whole 0, rest))
    ∷ (0x56, λ rest. checked (λ n. ltb n.0 2) (byte_at rest) >>= λ n. Some (Whole n.0, n.1)) ∷ []

boolean_read : AreRead boolean boolean_rows
unfolding value_by item_by number_at form_at
boolean_read = (
  null_read boolean,
  (
    λ rest. number_row boolean 0x41 kind.Boolean form.One (λ n. Some (Whole n)) (Some (1, rest)) rest refl (λ n text. refl) refl,
    (
      λ rest. number_row boolean 0x42 kind.Boolean form.Zero (λ n. Some (Whole n)) (Some (0, rest)) rest refl (λ n text. refl) refl,
      (
        λ rest. number_row boolean 0x56 kind.Boolean form.Full (λ n. Some (Whole n)) (checked (λ n. ltb n.0 2) (byte_at rest)) rest refl (λ n text. refl) (boolean_byte (outermost (0x56 ∷ rest)) rest),
        tt,
      ),
    ),
  ),
)

-- a boolean is read by these rows
pub boolean_is : (left : ℕ) (bytes : List ℕ) → typed_at boolean left bytes ≡ (code_at left bytes >>= typed_by boolean_rows)
boolean_is = read_by boolean boolean_rows boolean_read refl refl

-- those of a ubyte
abbrev pub ubyte_rows : ℕ → List Row
ubyte_rows most = null_row ∷ (0x50, λ rest. byte_at rest >>= λ n. where_so (leb n.0 most) (Whole n.0) >>= λ c. Some (c, n.1)) ∷ []

ubyte_read : (most : ℕ) → AreRead (ubyte_to most) (ubyte_rows most)
unfolding value_by item_by
ubyte_read most = (
  null_read (ubyte_to most),
  (
    λ rest. number_row (ubyte_to most) 0x50 kind.Ubyte form.Full (λ n. where_so (leb n most) (Whole n)) (byte_at rest) rest refl (λ n text. refl) (number_byte (outermost (0x50 ∷ rest)) rest),
    tt,
  ),
)

-- a ubyte is read by them
pub ubyte_is : (most left : ℕ) (bytes : List ℕ) → typed_at (ubyte_to most) left bytes ≡ (code_at left bytes >>= typed_by (ubyte_rows most))
ubyte_is most = read_by (ubyte_to most) (ubyte_rows most) (ubyte_read most) refl refl

-- a number of two bytes
abbrev pub two_at : List ℕ → Option (ℕ × List ℕ)
two_at bytes = where_so (leb 2 (length bytes)) (big_number 2 bytes, drop 2 bytes)

-- the rows of a ushort
abbrev pub ushort_rows : List Row
ushort_rows = null_row ∷ (0x60, λ rest. two_at rest >>= λ n. Some (Whole n.0, n.1)) ∷ []

ushort_read : AreRead ushort ushort_rows
unfolding value_by item_by
ushort_read = (
  null_read ushort,
  (
    λ rest. number_row ushort 0x60 kind.Ushort form.Full (λ n. Some (Whole n)) (two_at rest) rest refl (λ n text. refl)
        (number_full (outermost (0x60 ∷ rest)) kind.Ushort rest refl),
    tt,
  ),
)

-- a ushort is read by them
pub ushort_is : (left : ℕ) (bytes : List ℕ) → typed_at ushort left bytes ≡ (code_at left bytes >>= typed_by ushort_rows)
ushort_is = read_by ushort ushort_rows ushort_read refl refl

-- those of a uint
abbrev pub uint_rows : List Row
uint_rows =
    null_row ∷ (0x43, λ rest. Some (Whole 0, rest)) ∷ (0x52, λ rest. byte_at rest >>= λ n. Some (Whole n.0, n.1))
    ∷ (0x70, λ rest. word_at rest >>= λ n. Some (Whole n.0, n.1)) ∷ []

uint_read : AreRead uint uint_rows
unfolding value_by item_by number_at form_at
uint_read = (
  null_read uint,
  (
    λ rest. number_row uint 0x43 kind.Uint form.Zero (λ n. where_so (leb 0 n) (Whole n)) (Some (0, rest)) rest refl (λ n text. refl) refl,
    (
      λ rest. number_row uint 0x52 kind.Uint form.OneByte (λ n. Some (Whole n)) (byte_at rest) rest refl (λ n text. rw (le-leb 0 n (omega arith)) refl)
          (number_one (outermost (0x52 ∷ rest)) kind.Uint rest refl),
      (
        λ rest. number_row uint 0x70 kind.Uint form.Full (λ n. Some (Whole n)) (word_at rest) rest refl (λ n text. rw (le-leb 0 n (omega arith)) refl)
            (number_full (outermost (0x70 ∷ rest)) kind.Uint rest refl),
        tt,
      ),
    ),
  ),
)

-- a uint is read by them
pub uint_is : (left : ℕ) (bytes : List ℕ) → typed_at uint left bytes ≡ (code_at left bytes >>= typed_by uint_rows)
uint_is = read_by uint uint_rows uint_read refl refl

-- Octets. -------------------------------------------------------------------------------------------------------------

-- octets behind a size of one byte, and of four, where they pass
abbrev pub octets_rows : ℕ → ℕ → (List ℕ → Bool) → List Row
octets_rows one four passes =
    null_row ∷ (one, λ rest. checked (λ x. passes x.0) (short_at rest) >>= λ x. Some (Bytes x.0, x.1))
    ∷ (four, λ rest. checked (λ x. passes x.0) (long_at rest) >>= λ x. Some (Bytes x.0, x.1)) ∷ []

octets_table : (type : FieldType) (k : Kind) (one four : ℕ)
    → ((rest : List ℕ) → value_of 30 None (one ∷ rest) ≡ uncharged None (sized_at (outermost (one ∷ rest)) k size.One rest) (Octets k))
    → ((rest : List ℕ) → value_of 30 None (four ∷ rest) ≡ uncharged None (sized_at (outermost (four ∷ rest)) k size.Four rest) (Octets k))
    → ((octets text : List ℕ) → typed_cell type (record { tree = Octets k octets; text = text }) ≡ Some (Bytes octets)) → AreRead type (octets_rows one four (are_of k))
octets_table type k one four by_one by_four cell = (
  null_read type,
  (
    λ rest. octets_row type one k size.One (checked (λ x. are_of k x.0) (short_at rest)) rest (by_one rest) cell (sized_is (outermost (one ∷ rest)) k size.One rest),
    (
      λ rest. octets_row type four k size.Four (checked (λ x. are_of k x.0) (long_at rest)) rest (by_four rest) cell (sized_is (outermost (four ∷ rest)) k size.Four rest),
      tt,
    ),
  ),
)

binary_read : AreRead binary (octets_rows 0xa0 0xb0 (are_of kind.Binary))
unfolding value_by item_by
binary_read = octets_table binary kind.Binary 0xa0 0xb0 (λ rest. refl) (λ rest. refl) (λ octets text. refl)

string_read : AreRead string (octets_rows 0xa1 0xb1 (are_of kind.String))
unfolding value_by item_by
string_read = octets_table string kind.String 0xa1 0xb1 (λ rest. refl) (λ rest. refl) (λ octets text. refl)

symbol_read : AreRead symbol (octets_rows 0xa3 0xb3 (are_of kind.Symbol))
unfolding value_by item_by
symbol_read = octets_table symbol kind.Symbol 0xa3 0xb3 (λ rest. refl) (λ rest. refl) (λ octets text. refl)

-- so is a binary by its two rows
pub binary_is : (left : ℕ) (bytes : List ℕ) → typed_at binary left bytes ≡ (code_at left bytes >>= typed_by (octets_rows 0xa0 0xb0 (are_of kind.Binary)))
binary_is = read_by binary (octets_rows 0xa0 0xb0 (are_of kind.Binary)) binary_read refl refl

-- a string
pub string_is : (left : ℕ) (bytes : List ℕ) → typed_at string left bytes ≡ (code_at left bytes >>= typed_by (octets_rows 0xa1 0xb1 (are_of kind.String)))
string_is = read_by string (octets_rows 0xa1 0xb1 (are_of kind.String)) string_read refl refl

-- and a symbol
pub symbol_is : (left : ℕ) (bytes : List ℕ) → typed_at symbol left bytes ≡ (code_at left bytes >>= typed_by (octets_rows 0xa3 0xb3 (are_of kind.Symbol)))
symbol_is = read_by symbol (octets_rows 0xa3 0xb3 (are_of kind.Symbol)) symbol_read refl refl
