-- The canonical spelling of a performative says what is written.
use Rattle.std.proofs.Common.{◌≡◌, ℕ, ◌+◌, ◌^◌, ◌<◌, ◌≤◌, Bool, true, false, cond, ltb, eqb, List, [], ◌∷◌, ◌++◌, length, Option, Some, refl, sym, ap, subst, ◌∙◌, arith, inl, inr}
use Rattle.std.specs.List.{concat}
use Rattle.std.specs.Option.{unwrap_or}
use Rattle.std.proofs.lemmas.Bool.{eqb-true, ne_eqb, ltb-true, lt-ltb, and_parts}
use Rattle.std.proofs.lemmas.List.{length-append, length-map}
use Rattle.std.proofs.lemmas.Option.{same_Some}
use Rattle.std.proofs.lemmas.List.Concat.{concat_is}
use Rattle.std.proofs.lemmas.List.Folds.{flat_map-map}
use Rattle.byteorder.specs.Endian.{big_bytes}
use Rattle.byteorder.specs.Numbers.{length-bytes_high_first}
use Rattle.amqp_types.specs.declared.kind.Kind.{Kind}
use Rattle.amqp_types.specs.declared.kind.Kind.TheVariants as kind
use Rattle.amqp_types.specs.declared.code.SizeWidth.{SizeWidth}
use Rattle.amqp_types.specs.declared.code.SizeWidth.TheVariants as size
use Rattle.amqp_types.specs.declared.shell.Shell.TheVariants as shell
use Rattle.amqp_types.specs.Canonical.{canonical, shortest, full_code, block, is_small, narrowest, sized}
use Rattle.amqp_types.specs.Spelling.{Spells, size_len}
use Rattle.amqp_types.specs.Trees.{Tree, Number, Octets, depth_of}
use Rattle.amqp_types.proofs.Canons.{canonical_spells}
use Rattle.amqp_perform.specs.declared.descriptor.Descriptor.{Descriptor}
use Rattle.amqp_perform.specs.declared.descriptor.Descriptor.TheVariants as of_type
use Rattle.amqp_perform.specs.declared.performative.Performative.{Performative}
use Rattle.amqp_perform.specs.Again.{IsOfField, AreOfFields}
use Rattle.amqp_perform.specs.Bodies.{BodyOf}
use Rattle.amqp_perform.specs.Cells.{Cell, Absent, Whole, Bytes, Span, ◌>>=◌, is_null, value_cell, typed_cell, absent_cell, with_absence, field_cell, cells_of}
use Rattle.amqp_perform.specs.Descriptors.{code_of, by_code}
use Rattle.amqp_perform.specs.Frames.{null_text, kind_of_field, cell_text, written_text, field_text, field_texts, trimmed, list_text, described_text, performative_text, written_cells}
use Rattle.amqp_perform.specs.Items.{Item, text_of, AreSpelled, SpellsList}
use Rattle.amqp_perform.specs.Performatives.{type_of}
use Rattle.amqp_perform.specs.Said.{Said, said, said_texts, said_text, MayBeSaid}
use Rattle.amqp_perform.specs.Tables.{FieldType, boolean, ubyte_to, ushort, uint_from, binary, string, symbol, spanned, Absence, mandatory, optional, default, Field, open_fields, begin_fields}
use Rattle.amqp_perform.specs.Tables.{attach_fields, flow_fields, transfer_fields, disposition_fields, detach_fields, end_fields, close_fields, fields_of}
use Rattle.amqp_perform.proofs.Steps.{bind_some}
use Rattle.amqp_perform.proofs.TrimLaws.{texts_of, AreCells, null_spelled, trim, AreBelow, below}

-- One field. ----------------------------------------------------------------------------------------------------------

-- an item that is written for the cell
record IsWritten (f : Field) (c : Cell) (text : List ℕ) : Type 0 where
  tree : Tree
  spelled : Spells tree text
  deep : depth_of tree ≤ 30
  cell : field_cell f (record { tree = tree; text = text }) ≡ Some c

null_written : (f : Field) (c : Cell) → absent_cell f.absence ≡ Some c → IsWritten f c null_text
null_written f c e = record { tree = Number kind.Null 0; spelled = null_spelled; deep = omega arith; cell = e }

whole_cell : (type : FieldType) (n : ℕ) (text : List ℕ) → value_cell type (Number (kind_of_field type) n) [] ≡ Some (Whole n) → typed_cell type
    (record { tree = Number (kind_of_field type) n; text = text }) ≡ Some (Whole n)
whole_cell boolean n text e = e
whole_cell (ubyte_to most) n text e = e
whole_cell ushort n text e = e
whole_cell (uint_from least) n text e = e
whole_cell binary n text e = absurd cc
whole_cell string n text e = absurd cc
whole_cell symbol n text e = absurd cc
whole_cell spanned n text e = absurd cc

bytes_cell : (type : FieldType) (octets text : List ℕ) → value_cell type (Octets (kind_of_field type) octets) [] ≡ Some (Bytes octets) →
    typed_cell type (record { tree = Octets (kind_of_field type) octets; text = text }) ≡ Some (Bytes octets)
bytes_cell boolean octets text e = absurd cc
bytes_cell (ubyte_to most) octets text e = absurd cc
bytes_cell ushort octets text e = absurd cc
bytes_cell (uint_from least) octets text e = absurd cc
bytes_cell binary octets text e = e
bytes_cell string octets text e = e
bytes_cell symbol octets text e = e
bytes_cell spanned octets text e = absurd cc

span_cell : (f : Field) (t : Tree) (text : List ℕ) → f.type ≡ spanned → is_null t ≡ false → field_cell f (record { tree = t; text = text }) ≡ Some (Span text)
span_cell f t text type null = rw (null, type) refl

-- the bytes of a value are no more than its spelling
octets_long : (k : Kind) (octets : List ℕ) → length octets ≤ length (canonical (Octets k octets))
octets_long k octets =
    let s = narrowest (ltb (length octets) 256) in
    let l = length-append (big_bytes (size_len s) (length octets)) octets in
    omega (arith, l)

octets_written : (f : Field) (octets : List ℕ) → IsOfField f (Bytes octets) → length (canonical (Octets (kind_of_field f.type) octets)) < 2 ^ 32 →
    IsWritten f (Bytes octets) (canonical (Octets (kind_of_field f.type) octets))
octets_written f octets h lt =
    let k = kind_of_field f.type in
    let room : ltb (length octets) (2 ^ 32) ≡ true = lt-ltb (length octets) (2 ^ 32) (omega (arith, octets_long k octets)) in
    record {
      tree = Octets k octets;
      spelled = canonical_spells (Octets k octets) tt h.0 room;
      deep = omega arith;
      cell = ap (λ (o : Option Cell). o >>= with_absence f.absence) (bytes_cell f.type octets (canonical (Octets k octets)) h.1);
    }

whole_written : (f : Field) (n : ℕ) → IsOfField f (Whole n) → IsWritten f (Whole n) (canonical (Number (kind_of_field f.type) n))
whole_written f n h =
    let k = kind_of_field f.type in
    record {
      tree = Number k n;
      spelled = canonical_spells (Number k n) tt h.0 tt;
      deep = omega arith;
      cell = ap (λ (o : Option Cell). o >>= with_absence f.absence) (whole_cell f.type n (canonical (Number k n)) h.1);
    }

-- a number that is no default, or a null where it is
by_default : (f : Field) (n : ℕ) (absence : Absence) → f.absence ≡ absence → IsOfField f (Whole n) → IsWritten f (Whole n) (written_text f.type absence (Whole n))
by_default f n mandatory is h = whole_written f n h
by_default f n optional is h = whole_written f n h
by_default f n (default m) is h = test (eqb n m) refl
  where
    test : (b : Bool) → eqb n m ≡ b → IsWritten f (Whole n) (cond b null_text (canonical (Number (kind_of_field f.type) n)))
    test true e = null_written f (Whole n) (ap absent_cell is ∙ ap (λ (k : ℕ). Some (Whole k)) (sym (eqb-true n m e)))
    test false e = whole_written f n h

no_default : (type : FieldType) (absence : Absence) (c : Cell) → ((n : ℕ) → c ≡ Whole n → ⊥) → written_text type absence c ≡ cell_text type c
no_default type mandatory c h = refl
no_default type optional c h = refl
no_default type (default m) Absent h = refl
no_default type (default m) (Whole n) h = absurd (h n refl)
no_default type (default m) (Bytes octets) h = refl
no_default type (default m) (Span text) h = refl

field_written : (f : Field) (c : Cell) → IsOfField f c → length (field_text f c) < 2 ^ 32 → IsWritten f c (field_text f c)
field_written f Absent h lt = rw (no_default f.type f.absence Absent (λ n e. absurd cc)) (null_written f Absent (ap absent_cell h))
field_written f (Whole n) h lt = by_default f n f.absence refl h
field_written f (Bytes octets) h lt =
    let same = no_default f.type f.absence (Bytes octets) (λ n e. absurd cc) in
    rw same (octets_written f octets h (subst (λ (t : List ℕ). length t < 2 ^ 32) same lt))
field_written f (Span text) h lt =
    rw (no_default f.type f.absence (Span text) (λ n e. absurd cc)) (record { tree = h.1; spelled = h.2; deep = h.3; cell = span_cell f h.1 text h.0 h.4 })

-- All of them. --------------------------------------------------------------------------------------------------------

fields_written : (fs : List Field) (cells : List Cell) → AreOfFields fs cells → AreBelow (2 ^ 32) (field_texts fs cells) → (xs : List Item) ×
    (texts_of xs ≡ field_texts fs cells) × AreCells fs xs cells
fields_written [] [] h lt = ([], refl, record { spelled = tt; deep = omega arith; cells_are = refl })
fields_written [] (c ∷ cells) h lt = absurd h
fields_written (f ∷ fs) [] h lt = absurd h
fields_written (f ∷ fs) (c ∷ cells) h lt =
    let one = field_written f c h.0 lt.0 in
    let others = fields_written fs cells h.1 lt.1 in
    let x : Item = record { tree = one.tree; text = field_text f c } in (
      x ∷ others.0,
      ap (λ (texts : List (List ℕ)). field_text f c ∷ texts) others.1,
      record { spelled = (one.spelled, others.2.spelled); deep = omega (arith, one.deep, others.2.deep); cells_are = rw (one.cell, others.2.cells_are) refl },
    )

-- The list. -----------------------------------------------------------------------------------------------------------

text_of_texts : (xs : List Item) → concat (texts_of xs) ≡ text_of xs
text_of_texts xs = concat_is (texts_of xs) ∙ flat_map-map (λ (b : List ℕ). b) (λ (x : Item). x.text) xs

block_long : (s : SizeWidth) (n : ℕ) (content : List ℕ) → length (block s n content) ≡ size_len s + (size_len s + length content)
block_long s n content =
    let a = length-append (big_bytes (size_len s) (size_len s + length content)) (big_bytes (size_len s) n ++ content) in
    let b = length-append (big_bytes (size_len s) n) content in
    omega (arith, a, b, length-bytes_high_first (size_len s) (size_len s + length content), length-bytes_high_first (size_len s) n)

-- a list with an item is not the empty one
pub some_shortest : (n : ℕ) (content : List ℕ) → 0 < n → shortest (shell.List n) content ≡ sized kind.List (shell.List n) content
some_shortest n content lt = rw (ne_eqb n 0 (omega arith)) refl

-- a list is longer than its items
pub list_long : (texts : List (List ℕ)) → length (concat texts) + 1 ≤ length (list_text texts)
list_long [] = omega arith
list_long (text ∷ texts) =
    let n = length (text ∷ texts) in
    let content = concat (text ∷ texts) in
    let s = narrowest (is_small (shell.List n) content) in
    omega (arith, block_long s n content, ap length (some_shortest n content (omega arith)))

list_spelled : (xs : List Item) → AreSpelled xs → length xs < 256 → length (shortest (shell.List (length xs)) (text_of xs)) < 2 ^ 32 → SpellsList xs (shortest (shell.List (length xs)) (text_of xs))
list_spelled [] all few lt = inl (0x45, refl, refl, refl)
list_spelled (x ∷ xs) all few lt =
    let full = some_shortest n content (omega arith) in
    subst (λ (b : List ℕ). SpellsList (x ∷ xs) b) (sym full) (by (is_small (shell.List n) content) refl (subst (λ (b : List ℕ). length b < 2 ^ 32) full lt))
  where
    n : ℕ
    n = length (x ∷ xs)

    content : List ℕ
    content = text_of (x ∷ xs)

    by : (b : Bool) → is_small (shell.List n) content ≡ b → length (full_code (narrowest b) kind.List ∷ block (narrowest b) n content) < 2 ^ 32 →
        SpellsList (x ∷ xs) (full_code (narrowest b) kind.List ∷ block (narrowest b) n content)
    by true e lt =
        let short = ltb-true (length content) 255 (and_parts (ltb n 256) (ltb (length content) 255) e).1 in
        inr (full_code size.One kind.List, size.One, block size.One n content, refl, refl, (few, omega arith, refl), all)
    by false e lt =
        let l = block_long size.Four n content in
        inr (full_code size.Four kind.List, size.Four, block size.Four n content, refl, refl, (omega arith, omega arith, refl), all)

-- The performative. ---------------------------------------------------------------------------------------------------

-- what is to be known of a type
record IsKnown (d : Descriptor) (fs : List Field) : Type 0 where
  few : length fs < 256
  found : by_code (code_of d) ≡ Some d
  small : code_of d < 256

known : (d : Descriptor) (fs : List Field) → fields_of d ≡ Some fs → IsKnown d fs
unfolding by_code
known of_type.Open fs e = subst (λ (z : List Field). IsKnown of_type.Open z) (same_Some open_fields fs e) (record { few = omega arith; found = refl; small = omega arith })
known of_type.Begin fs e = subst (λ (z : List Field). IsKnown of_type.Begin z) (same_Some begin_fields fs e) (record { few = omega arith; found = refl; small = omega arith })
known of_type.Attach fs e = subst (λ (z : List Field). IsKnown of_type.Attach z) (same_Some attach_fields fs e) (record { few = omega arith; found = refl; small = omega arith })
known of_type.Flow fs e = subst (λ (z : List Field). IsKnown of_type.Flow z) (same_Some flow_fields fs e) (record { few = omega arith; found = refl; small = omega arith })
known of_type.Transfer fs e = subst (λ (z : List Field). IsKnown of_type.Transfer z) (same_Some transfer_fields fs e) (record { few = omega arith; found = refl; small = omega arith })
known of_type.Disposition fs e = subst (λ (z : List Field). IsKnown of_type.Disposition z) (same_Some disposition_fields fs e) (record { few = omega arith; found = refl; small = omega arith })
known of_type.Detach fs e = subst (λ (z : List Field). IsKnown of_type.Detach z) (same_Some detach_fields fs e) (record { few = omega arith; found = refl; small = omega arith })
known of_type.End fs e = subst (λ (z : List Field). IsKnown of_type.End z) (same_Some end_fields fs e) (record { few = omega arith; found = refl; small = omega arith })
known of_type.Close fs e = subst (λ (z : List Field). IsKnown of_type.Close z) (same_Some close_fields fs e) (record { few = omega arith; found = refl; small = omega arith })
known of_type.Error fs e = absurd (cc e)
known of_type.Accepted fs e = absurd (cc e)
known of_type.Rejected fs e = absurd (cc e)
known of_type.Released fs e = absurd (cc e)
known of_type.Modified fs e = absurd (cc e)

-- no more items than fields
no_more : (fs : List Field) (xs : List Item) (cells : List Cell) → cells_of fs xs ≡ Some cells → length xs ≤ length fs
no_more fs [] cells e = omega arith
no_more [] (x ∷ xs) cells e = absurd cc
no_more (f ∷ fs) (x ∷ xs) cells e =
    let a = bind_some (field_cell f x) (λ c. cells_of fs xs >>= λ cs. Some (c ∷ cs)) cells e in
    let b = bind_some (cells_of fs xs) (λ cs. Some (a.0 ∷ cs)) cells a.2 in
    let others = no_more fs xs b.0 b.1 in
    omega arith

code_spelled : (n : ℕ) → n < 256 → Spells (Number kind.Ulong n) (canonical (Number kind.Ulong n))
code_spelled n lt = canonical_spells (Number kind.Ulong n) tt (λ e. absurd cc, omega arith, tt) tt

described_says : (d : Descriptor) (fields : List Field) (cells : List Cell) (payload : List ℕ) → fields_of d ≡ Some fields → IsKnown d fields → AreOfFields fields cells
    → length (described_text d (field_texts fields cells)) < 2 ^ 32 → BodyOf (described_text d (field_texts fields cells) ++ payload) d cells payload
unfolding described_text
described_says d fields cells payload table is h lt =
    let texts = field_texts fields cells in
    let first = canonical (Number kind.Ulong (code_of d)) in
    let second = list_text (trimmed texts) in
    let len = length-append first second in
    let all = fields_written fields cells h (below (2 ^ 32) texts (omega (arith, lt, len, list_long (trimmed texts)))) in
    let left = trim fields all.0 cells all.2 in
    let ys = left.0 in
    let same : texts_of ys ≡ trimmed texts = left.1 ∙ ap trimmed all.1 in
    let count : length (trimmed texts) ≡ length ys = ap length (sym same) ∙ length-map ys (λ (x : Item). x.text) in
    let content : concat (trimmed texts) ≡ text_of ys = ap concat (sym same) ∙ text_of_texts ys in
    let list : list_text (trimmed texts) ≡ shortest (shell.List (length ys)) (text_of ys) =
    ap (λ (n : ℕ). shortest (shell.List n) (concat (trimmed texts))) count ∙ ap (shortest (shell.List (length ys))) content in
    let fits : length (shortest (shell.List (length ys)) (text_of ys)) < 2 ^ 32 = subst (λ (b : List ℕ). length b < 2 ^ 32) list (omega (arith, lt, len)) in
    let few : length ys < 256 = omega (arith, no_more fields ys cells left.2.cells_are, is.few) in
    let spelled : SpellsList ys second = subst (λ (b : List ℕ). SpellsList ys b) (sym list) (list_spelled ys left.2.spelled few fits) in (
      fields,
      ys,
      0 ∷ (first ++ second),
      table,
      refl,
      (Number kind.Ulong (code_of d), first, second, refl, code_spelled (code_of d) is.small, is.found, spelled),
      omega (arith, left.2.deep),
      left.2.cells_are,
    )

-- what is written of a type and fields says these
pub said_says : (s : Said) (payload : List ℕ) → MayBeSaid s → length (said_text s) < 2 ^ 32 → BodyOf (said_text s ++ payload) s.type s.cells payload
said_says s payload may lt =
    let texts : said_texts s ≡ field_texts may.fields s.cells = ap (λ (o : Option (List Field)). field_texts (unwrap_or o []) s.cells) may.table in
    let text : said_text s ≡ described_text s.type (field_texts may.fields s.cells) = ap (described_text s.type) texts in
    subst (λ (b : List ℕ). BodyOf (b ++ payload) s.type s.cells payload) (sym text)
    (described_says s.type may.fields s.cells payload may.table (known s.type may.fields may.table) may.each (subst (λ (b : List ℕ). length b < 2 ^ 32) text lt))

-- what is written of a performative says it
pub written_says : (p : Performative) (fields : List Field) (payload : List ℕ) → fields_of (type_of p) ≡ Some fields → AreOfFields fields (written_cells p) → length (performative_text p) < 2 ^ 32
    → BodyOf (performative_text p ++ payload) (type_of p) (written_cells p) payload
written_says p fields payload table each lt = said_says (said p) payload (record { fields = fields; table = table; each = each }) lt
