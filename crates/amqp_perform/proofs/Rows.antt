-- What a field's reader reads, as a table by the code in front.
use Rattle.std.proofs.Common.{◌≡◌, ℕ, zero, suc, ◌-◌, Bool, true, false, cond, eqb, not, ◌&&◌, ◌||◌, List, [], ◌∷◌, length, take, Option, Some, None, Ok, Err, refl, sym, ap, subst, ◌∙◌, arith}
use Rattle.std.proofs.lemmas.Bool.{le-ltb, eqb-true, and_parts}
use Rattle.std.proofs.lemmas.Option.{same_Some}
use Rattle.std.specs.Map.{lookup}
use Rattle.std.specs.Result.{result_ok}
use Rattle.amqp_types.specs.declared.kind.Kind.{Kind}
use Rattle.amqp_types.specs.declared.kind.Kind.TheVariants as kind
use Rattle.amqp_types.specs.declared.code.Form.{Form}
use Rattle.amqp_types.specs.declared.code.SizeWidth.{SizeWidth}
use Rattle.amqp_types.specs.declared.code.Constructor.{Constructor}
use Rattle.amqp_types.specs.Codes.{constructors, kind_of}
use Rattle.amqp_types.specs.Trees.{Tree, Number, Octets, Described, IsOfKind}
use Rattle.amqp_types.specs.InHand.{outermost}
use Rattle.amqp_types.specs.Reading.{Read, Part, uncharged, number_at, form_at, sized_at, inside, item_by, value_by, value_of}
use Rattle.amqp_perform.specs.Cells.{Cell, Absent, Bytes, ◌>>=◌, typed_cell}
use Rattle.amqp_perform.specs.Items.{Item}
use Rattle.amqp_perform.specs.BodyReading.{code_at, item_from, item_at, typed_at}
use Rattle.amqp_perform.specs.Tables.{FieldType, boolean, ubyte_to, ushort, uint_from, binary, string, symbol, spanned}
use Rattle.amqp_perform.proofs.Steps.{with_rest, with_left, bind_bind}
use Rattle.amqp_perform.proofs.Made.{Yields, value_yields}

-- a code, and how what is behind it is read
abbrev pub RowOf : Type 0 → Type 0
RowOf B = ℕ × (List ℕ → Option B)

-- a code, and what is read behind it
abbrev pub Row : Type 0
Row = RowOf (Cell × List ℕ)

-- a field of the type, behind a code
abbrev pub data_cell : FieldType → ℕ → List ℕ → Option (Cell × List ℕ)
data_cell type code rest = item_at (code ∷ rest) >>= λ x. typed_cell type x.0 >>= with_rest x.1

-- what the row of a code reads
abbrev pub by_rows : {B : Type 0} → List (RowOf B) → ℕ → List ℕ → Option B
by_rows [] code rest = None
by_rows (row ∷ rows) code rest = cond (eqb code row.0) (row.1 rest) (by_rows rows code rest)

-- a field, by its code and what is behind it
abbrev pub typed_by : List Row → ℕ × ℕ × List ℕ → Option (Cell × ℕ × List ℕ)
typed_by rows x = by_rows rows x.0 x.2 >>= with_left x.1

-- A table of codes. ---------------------------------------------------------------------------------------------------

-- the codes of rows
abbrev pub codes_of : {B : Type 0} → List (RowOf B) → List ℕ
codes_of [] = []
codes_of (row ∷ rows) = row.0 ∷ codes_of rows

-- a code that is none of these
abbrev pub IsOther : List ℕ → ℕ → Type 0
IsOther [] code = Unit {0}
IsOther (k ∷ ks) code = (eqb code k ≡ false) × IsOther ks code

module _ {B : Type 0} (read : ℕ → List ℕ → Option B) where
  -- what is read behind the code of each row is what the row says
  abbrev pub AreRows : List (RowOf B) → Type 0
  AreRows [] = Unit {0}
  AreRows (row ∷ rows) = ((rest : List ℕ) → read row.0 rest ≡ row.1 rest) × AreRows rows

  pub rows_read : (rows : List (RowOf B)) (code : ℕ) (rest : List ℕ) → AreRows rows → (IsOther (codes_of rows) code → read code rest ≡ None)
      → read code rest ≡ by_rows rows code rest
  rows_read [] code rest all none = none tt
  rows_read (row ∷ rows) code rest all none = tested (rows_read rows code rest all.1) (eqb code row.0) refl
    where
      tested : ((IsOther (codes_of rows) code → read code rest ≡ None) → read code rest ≡ by_rows rows code rest)
          → (b : Bool) → eqb code row.0 ≡ b → read code rest ≡ cond b (row.1 rest) (by_rows rows code rest)
      tested later true e = subst (λ (k : ℕ). read k rest ≡ row.1 rest) (sym (eqb-true code row.0 e)) (all.0 rest)
      tested later false e = later (λ others. none (e, others))

-- rows that read a field of a type as the grammar does
abbrev pub AreRead : FieldType → List Row → Type 0
AreRead type rows = AreRows (data_cell type) rows

-- Codes of other kinds. -----------------------------------------------------------------------------------------------

-- the kinds that a field of the type reads
abbrev pub accepts : FieldType → Kind → Bool
accepts spanned k = true
accepts type kind.Null = true
accepts boolean kind.Boolean = true
accepts (ubyte_to most) kind.Ubyte = true
accepts ushort kind.Ushort = true
accepts (uint_from least) kind.Uint = true
accepts binary kind.Binary = true
accepts string kind.String = true
accepts symbol kind.Symbol = true
accepts type k = false

-- whether a code is among them
abbrev pub is_in : List ℕ → ℕ → Bool
is_in [] code = false
is_in (k ∷ ks) code = eqb code k || is_in ks code

-- each code of the table whose kind is accepted is one of these
abbrev pub covered : (Kind → Bool) → List ℕ → List (ℕ × Constructor) → Bool
covered accepted ks [] = true
covered accepted ks (x ∷ xs) = (not (accepted (kind_of x.1)) || is_in ks x.0) && covered accepted ks xs

not_in : (ks : List ℕ) (code : ℕ) → IsOther ks code → is_in ks code ≡ false
not_in [] code other = refl
not_in (k ∷ ks) code other = rw other.0 (not_in ks code other.1)

refused : (a b : Bool) → not a || b ≡ true → b ≡ false → a ≡ false
refused true true e f = absurd cc
refused true false e f = absurd cc
refused false b e f = refl

-- a code outside the rows is of no kind that the field accepts
pub not_accepted : (accepted : Kind → Bool) (ks : List ℕ) (table : List (ℕ × Constructor)) (code : ℕ) (c : Constructor) → covered accepted ks table ≡ true → IsOther ks code
    → lookup (λ k. eqb code k) table ≡ Some c → accepted (kind_of c) ≡ false
not_accepted accepted ks [] code c all others found = absurd cc
not_accepted accepted ks (x ∷ xs) code c all others found =
    tested (not_accepted accepted ks xs code c row.1 others) (eqb code x.0) refl found
  where
    row : (not (accepted (kind_of x.1)) || is_in ks x.0 ≡ true) × (covered accepted ks xs ≡ true)
    row = and_parts (not (accepted (kind_of x.1)) || is_in ks x.0) (covered accepted ks xs) all

    tested : (lookup (λ k. eqb code k) xs ≡ Some c → accepted (kind_of c) ≡ false) → (b : Bool) → eqb code x.0 ≡ b → cond b (Some x.1) (lookup (λ k. eqb code k) xs) ≡ Some c →
        accepted (kind_of c) ≡ false
    tested next true e here =
        let same = eqb-true code x.0 e in
        subst (λ (d : Constructor). accepted (kind_of d) ≡ false) (same_Some x.1 c here)
        (refused (accepted (kind_of x.1)) (is_in ks x.0) row.0 (subst (λ (n : ℕ). is_in ks n ≡ false) same (not_in ks code others)))
    tested next false e later = next later

-- what is read behind a code that is none of these is of no kind that is accepted
pub others_yield : (P : Tree → Type 0) (accepted : Kind → Bool) (ks : List ℕ) (depth code : ℕ) (rest : List ℕ) → covered accepted ks constructors ≡ true → IsOther ks code
    → ((d t : Tree) → P (Described d t)) → ((t : Tree) (k : Kind) → IsOfKind k t → accepted k ≡ false → P t) → Yields P (value_of depth None (code ∷ rest))
others_yield P accepted ks depth code rest all others described leaf =
    value_yields P (inside depth) (outermost (code ∷ rest)) 1 code rest described
    (λ c found t is. leaf t (kind_of c) is (not_accepted accepted ks constructors code c all others found))

number_none : (type : FieldType) (k : Kind) (n : ℕ) (text : List ℕ) → accepts type k ≡ false → typed_cell type (record { tree = Number k n; text = text }) ≡ None
number_none spanned k n text e = absurd cc
number_none type kind.Null n text e = absurd cc
number_none boolean kind.Boolean n text e = absurd cc
number_none (ubyte_to most) kind.Ubyte n text e = absurd cc
number_none ushort kind.Ushort n text e = absurd cc
number_none (uint_from least) kind.Uint n text e = absurd cc
number_none type k n text e = refl

octets_none : (type : FieldType) (k : Kind) (octets text : List ℕ) → accepts type k ≡ false → typed_cell type (record { tree = Octets k octets; text = text }) ≡ None
octets_none spanned k octets text e = absurd cc
octets_none binary kind.Binary octets text e = absurd cc
octets_none string kind.String octets text e = absurd cc
octets_none symbol kind.Symbol octets text e = absurd cc
octets_none type k octets text e = refl

abbrev is_leaf : Tree → Bool
is_leaf (Number k n) = true
is_leaf (Octets k octets) = true
is_leaf t = false

compound_none : (type : FieldType) (t : Tree) (text : List ℕ) → is_leaf t ≡ false → accepts type kind.List ≡ false → typed_cell type (record { tree = t; text = text }) ≡ None
compound_none spanned t text leaf any = absurd cc
compound_none type (Number k n) text leaf any = absurd cc
compound_none type (Octets k octets) text leaf any = absurd cc
compound_none type t text leaf any = refl

tree_none : (type : FieldType) (t : Tree) (k : Kind) (text : List ℕ) → IsOfKind k t → accepts type k ≡ false → accepts type kind.List ≡ false →
    typed_cell type (record { tree = t; text = text }) ≡ None
tree_none type (Number j n) k text is e any = number_none type j n text (subst (λ (x : Kind). accepts type x ≡ false) (sym is) e)
tree_none type (Octets j octets) k text is e any = octets_none type j octets text (subst (λ (x : Kind). accepts type x ≡ false) (sym is) e)
tree_none type t k text is e any = compound_none type t text refl any

part_none : (type : FieldType) (bytes : List ℕ) (read : Part Tree) → Yields (λ t. (text : List ℕ) → typed_cell type (record { tree = t; text = text }) ≡ None) read
    → (item_from bytes read >>= λ x. typed_cell type x.0 >>= with_rest x.1) ≡ None
part_none type bytes (Ok x) h = ap (λ (o : Option Cell). o >>= with_rest x.2) (h (take (length bytes - length x.2) bytes))
part_none type bytes (Err e) h = refl

-- a code that has no row is of no kind that the field reads
others_none : (type : FieldType) (rows : List Row) (code : ℕ) (rest : List ℕ) → covered (accepts type) (codes_of rows) constructors ≡ true → accepts type kind.List ≡ false →
    IsOther (codes_of rows) code
    → data_cell type code rest ≡ None
others_none type rows code rest all any others =
    part_none type (code ∷ rest) (value_of 30 None (code ∷ rest))
    (others_yield (λ t. (text : List ℕ) → typed_cell type (record { tree = t; text = text }) ≡ None) (accepts type) (codes_of rows) 30 code rest all others
    (λ d t text. compound_none type (Described d t) text refl any) (λ t k is e text. tree_none type t k text is e any))

-- A field by a table. -------------------------------------------------------------------------------------------------

-- a null is an absent field
pub null_read : (type : FieldType) (rest : List ℕ) → data_cell type 0x40 rest ≡ Some (Absent, rest)
unfolding value_by item_by number_at form_at
null_read type rest = rw (le-ltb (length rest) 0 (omega arith)) refl

left_behind : (type : FieldType) (left : ℕ) (read : Option (Item × List ℕ))
    → (read >>= λ x. typed_cell type x.0 >>= λ c. Some (c, left, x.1)) ≡ ((read >>= λ x. typed_cell type x.0 >>= with_rest x.1) >>= with_left left)
left_behind type left None = refl
left_behind type left (Some x) = sym (bind_bind (typed_cell type x.0) (with_rest x.1) (with_left left))

typed_is : (type : FieldType) (rows : List Row) → ((code : ℕ) (rest : List ℕ) → data_cell type code rest ≡ by_rows rows code rest)
    → (left : ℕ) (bytes : List ℕ) → typed_at type left bytes ≡ (code_at left bytes >>= typed_by rows)
unfolding typed_at value_by
typed_is type rows h zero bytes = ap (λ (o : Option (Cell × List ℕ)). o >>= with_left 0) (sym (null_read type bytes) ∙ h 0x40 bytes)
typed_is type rows h (suc left) [] = refl
typed_is type rows h (suc left) (code ∷ rest) =
    left_behind type left (item_at (code ∷ rest)) ∙ ap (λ (o : Option (Cell × List ℕ)). o >>= with_left left) (h code rest)

-- the table of a type
pub read_by : (type : FieldType) (rows : List Row) → AreRead type rows → covered (accepts type) (codes_of rows) constructors ≡ true → accepts type kind.List ≡ false
    → (left : ℕ) (bytes : List ℕ) → typed_at type left bytes ≡ (code_at left bytes >>= typed_by rows)
read_by type rows all table any = typed_is type rows (λ code rest. rows_read (data_cell type) rows code rest all (others_none type rows code rest table any))

-- The data of a row. --------------------------------------------------------------------------------------------------

number_read : (type : FieldType) (k : Kind) (cell : ℕ → Option Cell) (bytes : List ℕ) (read : Read ℕ)
    → ((n : ℕ) (text : List ℕ) → typed_cell type (record { tree = Number k n; text = text }) ≡ cell n)
    → (item_from bytes (uncharged None read (Number k)) >>= λ x. typed_cell type x.0 >>= with_rest x.1) ≡ (result_ok read >>= λ x. cell x.0 >>= with_rest x.1)
number_read type k cell bytes (Ok x) h = ap (λ (o : Option Cell). o >>= with_rest x.1) (h x.0 (take (length bytes - length x.1) bytes))
number_read type k cell bytes (Err e) h = refl

octets_read : (type : FieldType) (k : Kind) (bytes : List ℕ) (read : Read (List ℕ))
    → ((octets text : List ℕ) → typed_cell type (record { tree = Octets k octets; text = text }) ≡ Some (Bytes octets))
    → (item_from bytes (uncharged None read (Octets k)) >>= λ x. typed_cell type x.0 >>= with_rest x.1) ≡ (result_ok read >>= λ x. with_rest x.1 (Bytes x.0))
octets_read type k bytes (Ok x) h = ap (λ (o : Option Cell). o >>= with_rest x.1) (h x.0 (take (length bytes - length x.1) bytes))
octets_read type k bytes (Err e) h = refl

-- a number whose code is of fixed width
pub number_row : (type : FieldType) (code : ℕ) (k : Kind) (f : Form) (cell : ℕ → Option Cell) (read : Option (ℕ × List ℕ)) (rest : List ℕ)
    → value_of 30 None (code ∷ rest) ≡ uncharged None (number_at (outermost (code ∷ rest)) k f rest) (Number k)
    → ((n : ℕ) (text : List ℕ) → typed_cell type (record { tree = Number k n; text = text }) ≡ cell n)
    → result_ok (number_at (outermost (code ∷ rest)) k f rest) ≡ read
    → data_cell type code rest ≡ (read >>= λ x. cell x.0 >>= with_rest x.1)
number_row type code k f cell read rest is h e =
    ap (λ (p : Part Tree). item_from (code ∷ rest) p >>= λ x. typed_cell type x.0 >>= with_rest x.1) is
    ∙ number_read type k cell (code ∷ rest) (number_at (outermost (code ∷ rest)) k f rest) h
    ∙ ap (λ (o : Option (ℕ × List ℕ)). o >>= λ x. cell x.0 >>= with_rest x.1) e

-- the row of bytes behind a size
pub octets_row : (type : FieldType) (code : ℕ) (k : Kind) (s : SizeWidth) (read : Option (List ℕ × List ℕ)) (rest : List ℕ)
    → value_of 30 None (code ∷ rest) ≡ uncharged None (sized_at (outermost (code ∷ rest)) k s rest) (Octets k)
    → ((octets text : List ℕ) → typed_cell type (record { tree = Octets k octets; text = text }) ≡ Some (Bytes octets))
    → result_ok (sized_at (outermost (code ∷ rest)) k s rest) ≡ read
    → data_cell type code rest ≡ (read >>= λ x. with_rest x.1 (Bytes x.0))
octets_row type code k s read rest is h e =
    ap (λ (p : Part Tree). item_from (code ∷ rest) p >>= λ x. typed_cell type x.0 >>= with_rest x.1) is
    ∙ octets_read type k (code ∷ rest) (sized_at (outermost (code ∷ rest)) k s rest) h
    ∙ ap (λ (o : Option (List ℕ × List ℕ)). o >>= λ x. with_rest x.1 (Bytes x.0)) e
