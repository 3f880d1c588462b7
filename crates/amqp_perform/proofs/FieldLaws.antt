-- The fields of a table are read exactly where the items are theirs.
use Rattle.std.proofs.Common.{◌≡◌, ℕ, zero, suc, ◌≤◌, List, [], ◌∷◌, ◌++◌, length, Option, Some, refl, sym, ap, subst, ◌∙◌, append_assoc, arith}
use Rattle.std.proofs.lemmas.List.{nil_from_length}
use Rattle.std.proofs.lemmas.Option.{same_Some}
use Rattle.amqp_types.specs.Trees.{depth_of_all}
use Rattle.amqp_types.proofs.Octets.{IsBytes}
use Rattle.amqp_perform.specs.Cells.{Cell, ◌>>=◌, typed_cell, absent_cell, with_absence, field_cell, cells_of}
use Rattle.amqp_perform.specs.Items.{Item, trees_of, text_of, AreSpelled}
use Rattle.amqp_perform.specs.BodyReading.{item_at, typed_at, field_at, fields_at}
use Rattle.amqp_perform.specs.Tables.{Field}
use Rattle.amqp_perform.proofs.Steps.{bind_some, triple_is}
use Rattle.amqp_perform.proofs.ItemLaws.{BeginsWith, item_found, item_again}

-- One field. ----------------------------------------------------------------------------------------------------------

abbrev Given : Type 0
Given = Cell × ℕ × List ℕ

abbrev with_cell : Field → Given → Option Given
with_cell f x = with_absence f.absence x.0 >>= λ c. Some (c, x.1, x.2)

field_absent : (f : Field) (bytes : List ℕ) (x : Given) → field_at f 0 bytes ≡ Some x → (absent_cell f.absence ≡ Some x.0) × (x.1 ≡ 0) × (x.2 ≡ bytes)
unfolding typed_at
field_absent f bytes x e =
    let a = bind_some (absent_cell f.absence) (λ c. Some (c, 0, bytes)) x e in
    let same = triple_is a.0 x.0 0 x.1 bytes x.2 a.2 in
    (a.1 ∙ ap (λ (c : Cell). Some c) same.0, sym same.1, sym same.2)

-- a field that is an item
record IsField (f : Field) (bytes : List ℕ) (c : Cell) (rest : List ℕ) : Type 0 where
  item : Item
  begins : BeginsWith bytes (item, rest)
  cell : field_cell f item ≡ Some c

field_found : (f : Field) (n : ℕ) (bytes : List ℕ) (x : Given) → IsBytes bytes → field_at f (suc n) bytes ≡ Some x → IsField f bytes x.0 x.2 × (x.1 ≡ n)
unfolding typed_at
field_found f n bytes x fits e =
    let a = bind_some (typed_at f.type (suc n) bytes) (with_cell f) x e in
    let b = bind_some (item_at bytes) (λ y. typed_cell f.type y.0 >>= λ c. Some (c, n, y.1)) a.0 a.1 in
    let c = bind_some (typed_cell f.type b.0.0) (λ c. Some (c, n, b.0.1)) a.0 b.2 in
    let typed = triple_is c.0 a.0.0 n a.0.1 b.0.1 a.0.2 c.2 in
    let d = bind_some (with_absence f.absence a.0.0) (λ c. Some (c, a.0.1, a.0.2)) x a.2 in
    let kept = triple_is d.0 x.0 a.0.1 x.1 a.0.2 x.2 d.2 in
    let rest : b.0.1 ≡ x.2 = typed.2 ∙ kept.2 in (
      record {
        item = b.0.0;
        begins = subst (λ (r : List ℕ). BeginsWith bytes (b.0.0, r)) rest (item_found bytes b.0 fits b.1);
        cell = ap (λ (o : Option Cell). o >>= with_absence f.absence) c.1 ∙ ap (with_absence f.absence) typed.0 ∙ d.1 ∙ ap (λ (c : Cell). Some c) kept.0;
      },
      sym (typed.1 ∙ kept.1),
    )

-- All of them. --------------------------------------------------------------------------------------------------------

-- the bytes begin with so many items, which are these cells by the table
pub record AreItems (fs : List Field) (left : ℕ) (bytes : List ℕ) (cells : List Cell) (rest : List ℕ) : Type 0 where
  pub items : List Item
  pub count : length items ≡ left
  pub spelled : AreSpelled items
  pub deep : depth_of_all (trees_of items) ≤ 30
  pub parts : bytes ≡ text_of items ++ rest
  pub cells_are : cells_of fs items ≡ Some cells

no_items : (fs : List Field) (bytes : List ℕ) (cells : List Cell) (rest : List ℕ) → AreItems fs 0 bytes cells rest → (bytes ≡ rest) × (cells_of fs [] ≡ Some cells)
no_items fs bytes cells rest h =
    let none = nil_from_length h.items h.count in
    (h.parts ∙ ap (λ (xs : List Item). text_of xs ++ rest) none, ap (cells_of fs) (sym none) ∙ h.cells_are)

-- fields that were read to the end leave no item
pub all_read : (read : Option (List Cell × ℕ × List ℕ)) (cs : List Cell) (left : ℕ) (behind rest : List ℕ) → read ≡ Some (cs, left, behind) → left ≡ 0 → behind ≡ rest → read ≡ Some (cs, 0, rest)
all_read read cs left behind rest e none same = e ∙ ap (λ (k : ℕ). Some (cs, k, behind)) none ∙ ap (λ (r : List ℕ). Some (cs, 0, r)) same

one_absent : (f : Field) (fs : List Field) (c : Cell) (cs : List Cell) → absent_cell f.absence ≡ Some c → cells_of fs [] ≡ Some cs → cells_of (f ∷ fs) [] ≡ Some (c ∷ cs)
one_absent f fs c cs e others = rw (e, others) refl

one_given : (f : Field) (fs : List Field) (x : Item) (xs : List Item) (c : Cell) (cs : List Cell) → field_cell f x ≡ Some c → cells_of fs xs ≡ Some cs → cells_of (f ∷ fs) (x ∷ xs) ≡ Some (c ∷ cs)
one_given f fs x xs c cs e others = rw (e, others) refl

-- fields that are read are spelled so
pub fields_found : (fs : List Field) (left : ℕ) (bytes : List ℕ) (cells : List Cell) (rest : List ℕ) → IsBytes bytes → fields_at fs left bytes ≡ Some (cells, 0, rest) →
    AreItems fs left bytes cells rest
fields_found [] left bytes cells rest fits e =
    let same = triple_is {A = List Cell} [] cells left 0 bytes rest e in
    record { items = []; count = sym same.1; spelled = tt; deep = omega arith; parts = same.2; cells_are = ap (λ (cs : List Cell). Some cs) same.0 }
fields_found (f ∷ fs) left bytes cells rest fits e =
    let a = bind_some (field_at f left bytes) (λ x. fields_at fs x.1 x.2 >>= λ xs. Some (x.0 ∷ xs.0, xs.1, xs.2)) (cells, 0, rest) e in
    let b = bind_some (fields_at fs a.0.1 a.0.2) (λ xs. Some (a.0.0 ∷ xs.0, xs.1, xs.2)) (cells, 0, rest) a.2 in
    let same = triple_is (a.0.0 ∷ b.0.0) cells b.0.1 0 b.0.2 rest b.2 in
    let others = all_read (fields_at fs a.0.1 a.0.2) b.0.0 b.0.1 b.0.2 rest b.1 same.1 same.2 in
    step (λ n bytes cs fits e. fields_found fs n bytes cs rest fits e) left a.0 a.1 b.0.0 others same.0
  where
    step : ((n : ℕ) (bytes : List ℕ) (cs : List Cell) → IsBytes bytes → fields_at fs n bytes ≡ Some (cs, 0, rest) → AreItems fs n bytes cs rest)
        → (left : ℕ) (x : Given) → field_at f left bytes ≡ Some x → (cs : List Cell) → fields_at fs x.1 x.2 ≡ Some (cs, 0, rest) → x.0 ∷ cs ≡ cells → AreItems (f ∷ fs) left bytes cells rest
    step found zero x e cs others same =
        let one = field_absent f bytes x e in
        let none = no_items fs bytes cs rest (found 0 bytes cs fits (ap (λ (k : ℕ). fields_at fs k bytes) (sym one.1) ∙ ap (fields_at fs x.1) (sym one.2) ∙ others)) in
        record {
          items = [];
          count = refl;
          spelled = tt;
          deep = omega arith;
          parts = none.0;
          cells_are = one_absent f fs x.0 cs one.0 none.1 ∙ ap (λ (all : List Cell). Some all) same;
        }
    step found (suc n) x e cs others same =
        let one = field_found f n bytes x fits e in
        let rest_of = found n x.2 cs one.0.begins.rest_fits (ap (λ (k : ℕ). fields_at fs k x.2) (sym one.1) ∙ others) in
        record {
          items = one.0.item ∷ rest_of.items;
          count = ap suc rest_of.count;
          spelled = (one.0.begins.spelled, rest_of.spelled);
          deep = omega (arith, one.0.begins.deep, rest_of.deep);
          parts = one.0.begins.parts ∙ ap (λ (b : List ℕ). one.0.item.text ++ b) rest_of.parts ∙ sym (append_assoc one.0.item.text (text_of rest_of.items) rest);
          cells_are = one_given f fs one.0.item rest_of.items x.0 cs one.0.cell rest_of.cells_are ∙ ap (λ (all : List Cell). Some all) same;
        }

-- fields that are spelled are read so
pub fields_again : (fs : List Field) (xs : List Item) (cells : List Cell) (rest : List ℕ) → AreSpelled xs → depth_of_all (trees_of xs) ≤ 30 → cells_of fs xs ≡ Some cells
    → fields_at fs (length xs) (text_of xs ++ rest) ≡ Some (cells, 0, rest)
unfolding typed_at
fields_again [] [] cells rest spelled deep e = ap (λ (cs : List Cell). Some (cs, 0, rest)) (same_Some [] cells e)
fields_again [] (x ∷ xs) cells rest spelled deep e = absurd cc
fields_again (f ∷ fs) [] cells rest spelled deep e =
    let a = bind_some (absent_cell f.absence) (λ c. cells_of fs [] >>= λ cs. Some (c ∷ cs)) cells e in
    let b = bind_some (cells_of fs []) (λ cs. Some (a.0 ∷ cs)) cells a.2 in
    let others = fields_again fs [] b.0 rest tt (omega arith) b.1 in
    rw (a.1, others) (ap (λ (cs : List Cell). Some (cs, 0, rest)) (same_Some (a.0 ∷ b.0) cells b.2))
fields_again (f ∷ fs) (x ∷ xs) cells rest spelled deep e =
    let a = bind_some (field_cell f x) (λ c. cells_of fs xs >>= λ cs. Some (c ∷ cs)) cells e in
    let b = bind_some (cells_of fs xs) (λ cs. Some (a.0 ∷ cs)) cells a.2 in
    let t = bind_some (typed_cell f.type x) (with_absence f.absence) a.0 a.1 in
    let regrouped : text_of (x ∷ xs) ++ rest ≡ x.text ++ (text_of xs ++ rest) = append_assoc x.text (text_of xs) rest in
    let item = item_again x.tree x.text (text_of xs ++ rest) spelled.0 (omega (arith, deep)) in
    let others = fields_again fs xs b.0 rest spelled.1 (omega (arith, deep)) b.1 in
    rw (regrouped, item, t.1, t.2, others) (ap (λ (cs : List Cell). Some (cs, 0, rest)) (same_Some (a.0 ∷ b.0) cells b.2))
