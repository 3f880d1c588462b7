-- The fields of a body that is read are fields that may be written.
use Rattle.std.proofs.Common.{◌≡◌, ◌≢◌, ℕ, ◌+◌, ◌-◌, ◌^◌, ◌<◌, ◌≤◌, ◌&&◌, Bool, true, false, cond, ltb, leb, eqb, List, [], ◌∷◌, ◌++◌, length, Option, Some, None, refl, sym, ap, subst, ◌∙◌, arith}
use Rattle.std.specs.Prelude.{codes}
use Rattle.std.proofs.lemmas.Bool.{ltb-true, and_parts}
use Rattle.std.proofs.lemmas.List.{take_at, drop_at}
use Rattle.std.proofs.lemmas.Option.{same_Some, cond_some}
use Rattle.byteorder.specs.Endian.{big_bytes}
use Rattle.amqp_types.specs.declared.kind.Kind.{Kind}
use Rattle.amqp_types.specs.declared.kind.Kind.TheVariants as kind
use Rattle.amqp_types.specs.declared.code.Form.{Form}
use Rattle.amqp_types.specs.declared.code.Form.TheVariants as form
use Rattle.amqp_types.specs.Canonical.{IsOfOctets, IsRanged}
use Rattle.amqp_types.specs.Kinds.{fixed_width, width}
use Rattle.amqp_types.specs.Spelling.{sign_extended, size_len, SpellsNumber, Spells}
use Rattle.amqp_types.specs.Trees.{Tree, Number, Octets, depth_of, depth_of_all}
use Rattle.amqp_types.proofs.Octets.{IsBytes, IsBytes-take, IsBytes-drop}
use Rattle.amqp_types.proofs.Powers.{pow_of_one}
use Rattle.amqp_perform.specs.declared.descriptor.Descriptor.{Descriptor}
use Rattle.amqp_perform.specs.declared.descriptor.Descriptor.TheVariants as of_type
use Rattle.amqp_perform.specs.declared.performative.Performative.{Performative}
use Rattle.amqp_perform.specs.declared.performative.Performative.TheVariants as performative
use Rattle.amqp_perform.specs.Again.{IsOfField, AreOfFields}
use Rattle.amqp_perform.specs.Bodies.{BodyOf, Body}
use Rattle.amqp_perform.specs.Cells.{Cell, Absent, Whole, Bytes, Span, ◌>>=◌, is_null, value_cell, absent_cell, with_absence, field_cell, cells_of}
use Rattle.amqp_perform.specs.Frames.{kind_of_field, last_written, disposition_written, written_cells}
use Rattle.amqp_perform.specs.Items.{Item, trees_of, text_of, AreSpelled, SpellsDescribed}
use Rattle.amqp_perform.specs.Performatives.{optional_whole, disposition_cells, type_of, performative_cells}
use Rattle.amqp_perform.specs.Tables.{FieldType, boolean, ubyte_to, ushort, uint_from, binary, string, symbol, spanned, Absence, mandatory, optional, default, Field, field, uint, open_fields}
use Rattle.amqp_perform.specs.Tables.{begin_fields, attach_fields, flow_fields, transfer_fields, disposition_fields, detach_fields, end_fields, close_fields, fields_of}
use Rattle.amqp_perform.proofs.Steps.{bind_some}
use Rattle.amqp_perform.proofs.ItemLaws.{descriptor_found}
use Rattle.amqp_perform.proofs.ListLaws.{list_of_items, list_found, described}

-- Bytes. --------------------------------------------------------------------------------------------------------------

bytes_front : (xs ys : List ℕ) → IsBytes (xs ++ ys) → IsBytes xs
bytes_front xs ys h = subst (λ (b : List ℕ). IsBytes b) (take_at xs ys (length xs) refl) (IsBytes-take (length xs) (xs ++ ys) h)

bytes_behind : (xs ys : List ℕ) → IsBytes (xs ++ ys) → IsBytes ys
bytes_behind xs ys h = subst (λ (b : List ℕ). IsBytes b) (drop_at xs ys (length xs) refl) (IsBytes-drop (length xs) (xs ++ ys) h)

-- the items of a list that is made of bytes are made of bytes
items_are_bytes : (d : Descriptor) (items : List Item) (text rest : List ℕ) → IsBytes (text ++ rest) → SpellsDescribed d items text → IsBytes (text_of items) × AreSpelled items
items_are_bytes d items text rest fits spelled =
    let list = described d items text rest spelled in
    let behind = (descriptor_found (text ++ rest) (d, list.second) fits list.head).rest_fits in
    ((list_found list.second (list_of_items items rest) behind list.list).items_fit, list.spelled)

-- Values that are spelled are ranged. ---------------------------------------------------------------------------------

below_power : (w n : ℕ) → 1 ≤ w → n < 256 → n < 256 ^ w
below_power w n some lt = omega (arith, pow_of_one w some)

extended_below : (w byte : ℕ) → 1 ≤ w → byte < 256 → sign_extended w byte < 256 ^ w
extended_below w byte some lt = by (ltb byte 128)
  where
    by : (b : Bool) → cond b byte (256 ^ w - 256 + byte) < 256 ^ w
    by true = below_power w byte some lt
    by false = omega (arith, pow_of_one w some)

form_below : (f : Form) (w n : ℕ) (text : List ℕ) → 1 ≤ w → SpellsNumber f w n text → n < 256 ^ w
form_below form.Zero w n text some h = below_power w n some (omega (arith, h.0))
form_below form.One w n text some h = below_power w n some (omega (arith, h.0))
form_below form.OneByte w n text some h = below_power w n some h.0
form_below form.OneSigned w n text some h = subst (λ (m : ℕ). m < 256 ^ w) (sym h.2) (extended_below w h.0 some h.1)
form_below form.Full w n text some h = h.0

number_ranged : (k : Kind) (n : ℕ) (text : List ℕ) → 1 ≤ width k → fixed_width k ≢ None → Spells (Number k n) text → IsRanged (Number k n)
unfolding Spells
number_ranged k n text some fixed (code, f, data_, is, joined, spelled, of_kind) = (fixed, form_below f (width k) n data_ some spelled, of_kind)

octets_ranged : (k : Kind) (octets text : List ℕ) → IsOfOctets k → IsBytes text → Spells (Octets k octets) text → IsRanged (Octets k octets)
unfolding Spells
octets_ranged k octets text is fits (code, s, data_, found, joined, sized, of_kind) =
    let all : text ≡ (code ∷ big_bytes (size_len s) (length octets)) ++ octets = joined ∙ ap (λ (b : List ℕ). code ∷ b) sized.1 in
    (is, bytes_behind (code ∷ big_bytes (size_len s) (length octets)) octets (subst (λ (b : List ℕ). IsBytes b) all fits), of_kind)

-- One field. ----------------------------------------------------------------------------------------------------------

-- what is not absent in a field of the type
abbrev IsOfType : FieldType → Cell → Type 0
IsOfType type Absent = ⊥
IsOfType type (Whole n) = IsRanged (Number (kind_of_field type) n) × (value_cell type (Number (kind_of_field type) n) [] ≡ Some (Whole n))
IsOfType type (Bytes octets) = IsRanged (Octets (kind_of_field type) octets) × (value_cell type (Octets (kind_of_field type) octets) [] ≡ Some (Bytes octets))
IsOfType type (Span text) = (type ≡ spanned) × (t : Tree) × Spells t text × (depth_of t ≤ 30) × (is_null t ≡ false)

of_field : (f : Field) (c : Cell) → IsOfType f.type c → IsOfField f c
of_field f Absent h = absurd h
of_field f (Whole n) h = h
of_field f (Bytes octets) h = h
of_field f (Span text) h = h

of_same : (type : FieldType) (b c : Cell) → IsOfType type b → ◌≡◌ {A = Option Cell} (Some b) (Some c) → IsOfType type c
of_same type b c h e = subst (IsOfType type) (same_Some b c e) h

value_of_type : (type : FieldType) (t : Tree) (text : List ℕ) (c : Cell) → Spells t text → IsBytes text → depth_of t ≤ 30 → is_null t ≡ false → value_cell type t text ≡ Some c → IsOfType type c
value_of_type boolean (Number kind.Boolean n) text c spelled fits deep null e =
    of_same boolean (Whole n) c (number_ranged kind.Boolean n text (omega arith) (λ e. absurd cc) spelled, refl) e
value_of_type (ubyte_to most) (Number kind.Ubyte n) text c spelled fits deep null e =
    let w = cond_some (leb n most) (Whole n) c e in
    subst (IsOfType (ubyte_to most)) w.1 (number_ranged kind.Ubyte n text (omega arith) (λ e. absurd cc) spelled, rw w.0 refl)
value_of_type ushort (Number kind.Ushort n) text c spelled fits deep null e =
    of_same ushort (Whole n) c (number_ranged kind.Ushort n text (omega arith) (λ e. absurd cc) spelled, refl) e
value_of_type (uint_from least) (Number kind.Uint n) text c spelled fits deep null e =
    let w = cond_some (leb least n) (Whole n) c e in
    subst (IsOfType (uint_from least)) w.1 (number_ranged kind.Uint n text (omega arith) (λ e. absurd cc) spelled, rw w.0 refl)
value_of_type binary (Octets kind.Binary octets) text c spelled fits deep null e = of_same binary (Bytes octets) c (octets_ranged kind.Binary octets text tt fits spelled, refl) e
value_of_type string (Octets kind.String octets) text c spelled fits deep null e = of_same string (Bytes octets) c (octets_ranged kind.String octets text tt fits spelled, refl) e
value_of_type symbol (Octets kind.Symbol octets) text c spelled fits deep null e = of_same symbol (Bytes octets) c (octets_ranged kind.Symbol octets text tt fits spelled, refl) e
value_of_type spanned t text c spelled fits deep null e = of_same spanned (Span text) c (refl, t, spelled, deep, null) e
value_of_type _ _ text c spelled fits deep null e = absurd cc

-- whether a default is a number of the field's type
abbrev suits : FieldType → Absence → Bool
suits boolean (default n) = ltb n 2
suits (ubyte_to most) (default n) = leb n most && ltb n 256
suits ushort (default n) = ltb n 65536
suits (uint_from least) (default n) = leb least n && ltb n 4294967296
suits _ (default n) = false
suits _ _ = true

default_of_type : (type : FieldType) (n : ℕ) → suits type (default n) ≡ true → IsOfType type (Whole n)
default_of_type boolean n h = let lt = ltb-true n 2 h in ((λ e. absurd cc, omega arith, lt), refl)
default_of_type (ubyte_to most) n h = let both = and_parts (leb n most) (ltb n 256) h in ((λ e. absurd cc, ltb-true n 256 both.1, tt), rw both.0 refl)
default_of_type ushort n h = ((λ e. absurd cc, ltb-true n 65536 h, tt), refl)
default_of_type (uint_from least) n h = let both = and_parts (leb least n) (ltb n 4294967296) h in ((λ e. absurd cc, ltb-true n 4294967296 both.1, tt), rw both.0 refl)
default_of_type _ n h = absurd cc

absent_of_field : (f : Field) (c : Cell) → suits f.type f.absence ≡ true → absent_cell f.absence ≡ Some c → IsOfField f c
absent_of_field f c h e = by f.absence refl h e
  where
    by : (a : Absence) → f.absence ≡ a → suits f.type a ≡ true → absent_cell a ≡ Some c → IsOfField f c
    by mandatory is h e = absurd cc
    by optional is h e = subst (IsOfField f) (same_Some Absent c e) is
    by (default n) is h e = subst (IsOfField f) (same_Some (Whole n) c e) (of_field f (Whole n) (default_of_type f.type n h))

with_absence_of : (f : Field) (c d : Cell) → IsOfType f.type c → with_absence f.absence c ≡ Some d → IsOfField f d
with_absence_of f Absent d h e = absurd h
with_absence_of f (Whole n) d h e = subst (IsOfField f) (same_Some (Whole n) d e) h
with_absence_of f (Bytes octets) d h e = subst (IsOfField f) (same_Some (Bytes octets) d e) h
with_absence_of f (Span text) d h e = subst (IsOfField f) (same_Some (Span text) d e) h

item_of_field : (f : Field) (x : Item) (c : Cell) → suits f.type f.absence ≡ true → Spells x.tree x.text → IsBytes x.text → depth_of x.tree ≤ 30 → field_cell f x ≡ Some c → IsOfField f c
item_of_field f x c h spelled fits deep e = by (is_null x.tree) refl e
  where
    by : (b : Bool) → is_null x.tree ≡ b → (cond b (Some Absent) (value_cell f.type x.tree x.text) >>= with_absence f.absence) ≡ Some c → IsOfField f c
    by true null e = absent_of_field f c h e
    by false null e =
        let a = bind_some (value_cell f.type x.tree x.text) (with_absence f.absence) c e in
        with_absence_of f a.0 c (value_of_type f.type x.tree x.text a.0 spelled fits deep null a.1) a.2

-- All of them. --------------------------------------------------------------------------------------------------------

abbrev all_suit : List Field → Bool
all_suit [] = true
all_suit (f ∷ fs) = suits f.type f.absence && all_suit fs

some_of_fields : (f : Field) (fs : List Field) (c : Cell) (cs cells : List Cell) → IsOfField f c → AreOfFields fs cs → ◌≡◌ {A = Option (List Cell)} (Some (c ∷ cs)) (Some cells) →
    AreOfFields (f ∷ fs) cells
some_of_fields f fs c cs cells one others e = subst (AreOfFields (f ∷ fs)) (same_Some (c ∷ cs) cells e) (one, others)

all_of_fields : (fs : List Field) (xs : List Item) (cells : List Cell) → all_suit fs ≡ true → AreSpelled xs → IsBytes (text_of xs) → depth_of_all (trees_of xs) ≤ 30 → cells_of fs xs ≡ Some cells →
    AreOfFields fs cells
all_of_fields [] [] cells h spelled fits deep e = subst (AreOfFields []) (same_Some [] cells e) tt
all_of_fields [] (x ∷ xs) cells h spelled fits deep e = absurd cc
all_of_fields (f ∷ fs) [] cells h spelled fits deep e =
    let own = and_parts (suits f.type f.absence) (all_suit fs) h in
    let a = bind_some (absent_cell f.absence) (λ c. cells_of fs [] >>= λ cs. Some (c ∷ cs)) cells e in
    let b = bind_some (cells_of fs []) (λ cs. Some (a.0 ∷ cs)) cells a.2 in
    some_of_fields f fs a.0 b.0 cells (absent_of_field f a.0 own.0 a.1) (all_of_fields fs [] b.0 own.1 tt fits (omega arith) b.1) b.2
all_of_fields (f ∷ fs) (x ∷ xs) cells h spelled fits deep e =
    let own = and_parts (suits f.type f.absence) (all_suit fs) h in
    let a = bind_some (field_cell f x) (λ c. cells_of fs xs >>= λ cs. Some (c ∷ cs)) cells e in
    let b = bind_some (cells_of fs xs) (λ cs. Some (a.0 ∷ cs)) cells a.2 in
    let one = item_of_field f x a.0 own.0 spelled.0 (bytes_front x.text (text_of xs) fits) (omega (arith, deep)) a.1 in
    some_of_fields f fs a.0 b.0 cells one (all_of_fields fs xs b.0 own.1 spelled.1 (bytes_behind x.text (text_of xs) fits) (omega (arith, deep)) b.1) b.2

-- The tables. ---------------------------------------------------------------------------------------------------------

-- each default in the tables is a number of its field's type
defaults : (d : Descriptor) (fs : List Field) → fields_of d ≡ Some fs → all_suit fs ≡ true
defaults of_type.Open fs e = ap all_suit (sym (same_Some open_fields fs e))
defaults of_type.Begin fs e = ap all_suit (sym (same_Some begin_fields fs e))
defaults of_type.Attach fs e = ap all_suit (sym (same_Some attach_fields fs e))
defaults of_type.Flow fs e = ap all_suit (sym (same_Some flow_fields fs e))
defaults of_type.Transfer fs e = ap all_suit (sym (same_Some transfer_fields fs e))
defaults of_type.Disposition fs e = ap all_suit (sym (same_Some disposition_fields fs e))
defaults of_type.Detach fs e = ap all_suit (sym (same_Some detach_fields fs e))
defaults of_type.End fs e = ap all_suit (sym (same_Some end_fields fs e))
defaults of_type.Close fs e = ap all_suit (sym (same_Some close_fields fs e))
defaults _ fs e = absurd cc

-- the fields of a body that was read are of their types
pub read_of_fields : (bytes : List ℕ) (d : Descriptor) (fields : List Field) (cells : List Cell) (payload : List ℕ) → IsBytes bytes → BodyOf bytes d cells payload → fields_of d ≡ Some fields →
    AreOfFields fields cells
read_of_fields bytes d fields cells payload fits (fs, items, text, table, parts, described, deep, are) same =
    let all = items_are_bytes d items text payload (subst (λ (b : List ℕ). IsBytes b) parts fits) described in
    subst (λ (table : List Field). AreOfFields table cells) (same_Some fs fields (sym table ∙ same))
    (all_of_fields fs items cells (defaults d fs table) all.1 all.0 (omega (arith, deep)) are)

-- What is written of a performative. ----------------------------------------------------------------------------------

-- a last that is the first is left out, and may be
last_of_field : (f : Field) (first : ℕ) (last : Option ℕ) → f.absence ≡ optional → IsOfField f (optional_whole last) → IsOfField f (last_written first last)
last_of_field f first None is h = is
last_of_field f first (Some last) is h = by (eqb last first)
  where
    by : (b : Bool) → IsOfField f (cond b Absent (Whole last))
    by true = is
    by false = h

written_of_fields : (p : Performative) (fields : List Field) → fields_of (type_of p) ≡ Some fields → AreOfFields fields (performative_cells p) → AreOfFields fields (written_cells p)
written_of_fields (performative.Disposition p) fields e h =
    let table = same_Some disposition_fields fields e in
    let cells = subst (λ (fs : List Field). AreOfFields fs (disposition_cells p)) (sym table) h in
    subst (λ (fs : List Field). AreOfFields fs (disposition_written p)) table
    (cells.0, (cells.1.0, (last_of_field (field (codes "last") uint optional) p.first p.last refl cells.1.1.0, cells.1.1.1)))
written_of_fields _ fields e h = h

-- so what was read may be written
pub read_may_be_written : (bytes : List ℕ) (p : Performative) (fields : List Field) (payload : List ℕ) → IsBytes bytes → Body bytes p payload → fields_of (type_of p) ≡ Some fields →
    AreOfFields fields (written_cells p)
read_may_be_written bytes p fields payload fits body table =
    written_of_fields p fields table (read_of_fields bytes (type_of p) fields (performative_cells p) payload fits body table)
