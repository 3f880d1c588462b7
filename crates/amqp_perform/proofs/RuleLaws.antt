-- Items may stand in the fields of a table exactly where they are cells of it.
use Rattle.std.proofs.Common.{◌≡◌, ℕ, ◌≤◌, Bool, true, false, cond, eqb, not, ◌&&◌, ◌||◌, is_some, List, [], ◌∷◌, ◌++◌, map, length, Option, Some, None, refl, sym, ap, ◌∙◌, arith}
use Rattle.std.proofs.lemmas.Bool.{ne_eqb}
use Rattle.std.proofs.lemmas.Option.{same_Some, cond_some}
use Rattle.std.proofs.Math.Dec.{leb}
use Rattle.amqp_types.specs.declared.kind.Kind.TheVariants as kind
use Rattle.amqp_types.specs.Spelling.{Spells}
use Rattle.amqp_types.specs.Trees.{Tree, Number, Octets, depth_of, depth_of_all}
use Rattle.amqp_perform.specs.Cells.{Cell, Absent, Whole, Bytes, Span, ◌>>=◌, where_so, is_null, value_cell, typed_cell, absent_cell, with_absence, field_cell, cells_of}
use Rattle.amqp_perform.specs.Items.{Item, trees_of, text_of, AreSpelled}
use Rattle.amqp_perform.specs.BodyReading.{typed_at, fields_at}
use Rattle.amqp_perform.specs.Rules.{asked_of, is_mandatory, is_there, there_at, may_be, may_be_all}
use Rattle.amqp_perform.specs.Tables.{FieldType, boolean, ubyte_to, ushort, uint_from, binary, string, symbol, spanned, Absence, mandatory, optional, default, Field}
use Rattle.amqp_perform.proofs.ItemLaws.{item_again}
use Rattle.amqp_perform.proofs.Steps.{with_both}

-- One item. -----------------------------------------------------------------------------------------------------------

-- what is of the type is there
value_there : (type : FieldType) (t : Tree) (text : List ℕ) (c : Cell) → value_cell type t text ≡ Some c → is_there c ≡ true
value_there boolean (Number kind.Boolean n) text c e = ap is_there (sym (same_Some (Whole n) c e))
value_there (ubyte_to most) (Number kind.Ubyte n) text c e = ap is_there (sym (cond_some (leb n most) (Whole n) c e).1)
value_there ushort (Number kind.Ushort n) text c e = ap is_there (sym (same_Some (Whole n) c e))
value_there (uint_from least) (Number kind.Uint n) text c e = ap is_there (sym (cond_some (leb least n) (Whole n) c e).1)
value_there binary (Octets kind.Binary octets) text c e = ap is_there (sym (same_Some (Bytes octets) c e))
value_there string (Octets kind.String octets) text c e = ap is_there (sym (same_Some (Bytes octets) c e))
value_there symbol (Octets kind.Symbol octets) text c e = ap is_there (sym (same_Some (Bytes octets) c e))
value_there spanned t text c e = ap is_there (sym (same_Some (Span text) c e))
value_there type t text c e = absurd cc

-- whether a cell is there, with what follows it
abbrev pub with_rest : List ℕ → Cell → Option (Bool × List ℕ)
with_rest rest c = Some (is_there c, rest)

-- the same of what was read
abbrev pub seen : Cell × ℕ × List ℕ → Option (Bool × List ℕ)
seen read = Some (is_there read.0, read.2)

-- an item that is spelled is read so
pub value_read : (type : FieldType) (x : Item) (rest : List ℕ) → Spells x.tree x.text → depth_of x.tree ≤ 30
    → there_at type (x.text ++ rest) ≡ (typed_cell type x >>= with_rest rest)
unfolding typed_at
value_read type x rest spelled deep = rw (item_again x.tree x.text rest spelled deep) (regrouped (typed_cell type x))
  where
    regrouped : (o : Option Cell) → ((o >>= with_both 0 rest) >>= seen) ≡ (o >>= with_rest rest)
    regrouped None = refl
    regrouped (Some c) = refl

-- what follows a value, where it is there or need not be
abbrev pub kept : Bool → Bool × List ℕ → Option (List ℕ)
kept must read = where_so (read.0 || not must) read.1

-- an item may stand in a field by what is read of it
pub may_be_is : (type : FieldType) (must : Bool) (x : Item) (rest : List ℕ) → where_so (may_be (type, must) x) rest ≡ ((typed_cell type x >>= with_rest rest) >>= kept must)
may_be_is type must x rest = by (is_null x.tree) (value_cell type x.tree x.text) refl
  where
    by : (null : Bool) (o : Option Cell) → value_cell type x.tree x.text ≡ o
        → where_so (cond null (not must) (is_some o)) rest ≡ ((cond null (Some Absent) o >>= with_rest rest) >>= kept must)
    by true o e = refl
    by false None e = refl
    by false (Some c) e = rw (value_there type x.tree x.text c e) refl

-- Items in the fields of a table. -------------------------------------------------------------------------------------

-- an absent field is a fault, or it is a cell
absent_may : (absence : Absence) → not (is_mandatory absence) ≡ is_some (absent_cell absence)
absent_may mandatory = refl
absent_may optional = refl
absent_may (default n) = refl

there_may : (absence : Absence) (c : Cell) → is_there c ≡ true → is_some (with_absence absence c) ≡ true
there_may absence Absent e = absurd cc
there_may absence (Whole n) e = refl
there_may absence (Bytes octets) e = refl
there_may absence (Span text) e = refl

field_may : (f : Field) (x : Item) → may_be (asked_of f) x ≡ is_some (field_cell f x)
field_may f x = by (is_null x.tree) (value_cell f.type x.tree x.text) refl
  where
    by : (null : Bool) (o : Option Cell) → value_cell f.type x.tree x.text ≡ o
        → cond null (not (is_mandatory f.absence)) (is_some o) ≡ is_some (cond null (Some Absent) o >>= with_absence f.absence)
    by true o e = absent_may f.absence
    by false None e = refl
    by false (Some c) e = sym (there_may f.absence c (value_there f.type x.tree x.text c e))

both : (o : Option Cell) (others : Option (List Cell)) → is_some o && is_some others ≡ is_some (o >>= λ c. others >>= λ cs. Some (c ∷ cs))
both None others = refl
both (Some c) None = refl
both (Some c) (Some cs) = refl

-- they are cells of the table
pub cells_may : (fs : List Field) (xs : List Item) → may_be_all (map asked_of fs) xs ≡ is_some (cells_of fs xs)
cells_may [] [] = refl
cells_may [] (x ∷ xs) = refl
cells_may (f ∷ fs) [] = rw (absent_may f.absence, cells_may fs []) (both (absent_cell f.absence) (cells_of fs []))
cells_may (f ∷ fs) (x ∷ xs) = rw (field_may f x, cells_may fs xs) (both (field_cell f x) (cells_of fs xs))

-- Reading them. -------------------------------------------------------------------------------------------------------

abbrev Given : Type 0
Given = List Cell × ℕ × List ℕ

-- the cells, where no item and no byte is left
abbrev pub ended : Given → Option (List Cell)
ended read = where_so (eqb read.1 0 && eqb (length read.2) 0) read.0

first_ended : (c : Cell) (read : Option Given) → ((read >>= λ xs. Some (c ∷ xs.0, xs.1, xs.2)) >>= ended) ≡ ((read >>= ended) >>= λ cs. Some (c ∷ cs))
first_ended c None = refl
first_ended c (Some read) = by (eqb read.1 0 && eqb (length read.2) 0)
  where
    by : (b : Bool) → where_so b (c ∷ read.0) ≡ (where_so b read.0 >>= λ cs. Some (c ∷ cs))
    by true = refl
    by false = refl

-- a field, and then the others
then_others : (fs : List Field) (o : Option Cell) (n : ℕ) (bytes : List ℕ) (cells : Option (List Cell)) → (fields_at fs n bytes >>= ended) ≡ cells
    → (((o >>= with_both n bytes) >>= λ x. fields_at fs x.1 x.2 >>= λ xs. Some (x.0 ∷ xs.0, xs.1, xs.2)) >>= ended) ≡ (o >>= λ c. cells >>= λ cs. Some (c ∷ cs))
then_others fs None n bytes cells e = refl
then_others fs (Some c) n bytes cells e = first_ended c (fields_at fs n bytes) ∙ ap (λ (o : Option (List Cell)). o >>= λ cs. Some (c ∷ cs)) e

typed_then : (absence : Absence) (o : Option Cell) (n : ℕ) (bytes : List ℕ)
    → ((o >>= with_both n bytes) >>= λ x. with_absence absence x.0 >>= with_both x.1 x.2) ≡ ((o >>= with_absence absence) >>= with_both n bytes)
typed_then absence None n bytes = refl
typed_then absence (Some c) n bytes = refl

left_over : (n : ℕ) (b : Bool) → (n ≡ 0 → ⊥) → where_so {A = List Cell} (eqb n 0 && b) [] ≡ None
left_over n b some = rw (ne_eqb n 0 some) refl

-- items that are spelled are read as the cells that they are
pub cells_read : (fs : List Field) (xs : List Item) → AreSpelled xs → depth_of_all (trees_of xs) ≤ 30 → (fields_at fs (length xs) (text_of xs) >>= ended) ≡ cells_of fs xs
unfolding typed_at
cells_read [] [] spelled deep = refl
cells_read [] (x ∷ xs) spelled deep = left_over (length (x ∷ xs)) (eqb (length (text_of (x ∷ xs))) 0) (λ e. omega (arith, e))
cells_read (f ∷ fs) [] spelled deep = then_others fs (absent_cell f.absence) 0 [] (cells_of fs []) (cells_read fs [] tt (omega arith))
cells_read (f ∷ fs) (x ∷ xs) spelled deep =
    let item = item_again x.tree x.text (text_of xs) spelled.0 (omega (arith, deep)) in
    rw (item, typed_then f.absence (typed_cell f.type x) (length xs) (text_of xs))
    (then_others fs (field_cell f x) (length xs) (text_of xs) (cells_of fs xs) (cells_read fs xs spelled.1 (omega (arith, deep))))
