-- Items that are nulls at the end may be left out.
use Rattle.std.proofs.Common.{◌≡◌, ℕ, ◌+◌, ◌<◌, ◌≤◌, Bool, true, cond, List, [], ◌∷◌, ◌++◌, length, map, Some, refl, sym, ap, subst, ◌∙◌, arith, inl, inr}
use Rattle.std.specs.List.{concat}
use Rattle.std.proofs.lemmas.List.{length-append, length-map, nil_from_length}
use Rattle.std.proofs.lemmas.Option.{same_Some, none-some}
use Rattle.amqp_types.specs.declared.kind.Kind.TheVariants as kind
use Rattle.amqp_types.specs.declared.code.Form.TheVariants as form
use Rattle.amqp_types.specs.Spelling.{Spells}
use Rattle.amqp_types.specs.Trees.{Number, depth_of, depth_of_all}
use Rattle.amqp_types.proofs.Again.{one_spelling}
use Rattle.amqp_perform.specs.Cells.{Cell, Absent, ◌>>=◌, is_null, value_cell, absent_cell, with_absence, field_cell, cells_of}
use Rattle.amqp_perform.specs.Frames.{null_text, before_nulls, trimmed}
use Rattle.amqp_perform.specs.Items.{Item, trees_of, AreSpelled}
use Rattle.amqp_perform.specs.Tables.{Field}
use Rattle.amqp_perform.proofs.Steps.{bind_some}
use Rattle.amqp_perform.proofs.Trims.{kept_or_null}

-- the texts of items
abbrev pub texts_of : List Item → List (List ℕ)
texts_of xs = map (λ (x : Item). x.text) xs

-- the items are these cells by the table
pub record AreCells (fs : List Field) (items : List Item) (cells : List Cell) : Type 0 where
  pub spelled : AreSpelled items
  pub deep : depth_of_all (trees_of items) ≤ 30
  pub cells_are : cells_of fs items ≡ Some cells

-- Nulls. --------------------------------------------------------------------------------------------------------------

-- the text of a null spells it
pub null_spelled : Spells (Number kind.Null 0) null_text
unfolding Spells
null_spelled = (0x40, form.Full, [], refl, refl, (omega arith, refl), tt)

-- an item that is spelled as a null is an absent field
null_is_absent : (f : Field) (x : Item) (c : Cell) → Spells x.tree x.text → x.text ≡ null_text → field_cell f x ≡ Some c → absent_cell f.absence ≡ Some c
null_is_absent f x c spelled text e =
    let tree = (one_spelling x.tree (Number kind.Null 0) x.text null_text [] [] spelled null_spelled (ap (λ (b : List ℕ). b ++ []) text)).1 in
    let null : is_null x.tree ≡ true = ap is_null tree in
    subst (λ (b : Bool). (cond b (Some Absent) (value_cell f.type x.tree x.text) >>= with_absence f.absence) ≡ Some c) null e

-- What is left. -------------------------------------------------------------------------------------------------------

-- one more item before them
one_more : (f : Field) (fs : List Field) (x : Item) (c : Cell) (cells : List Cell) → Spells x.tree x.text → depth_of x.tree ≤ 30 → field_cell f x ≡ Some c
    → (ys : List Item) → AreCells fs ys cells → (zs : List Item) × (texts_of zs ≡ before_nulls x.text (texts_of ys)) × AreCells (f ∷ fs) zs (c ∷ cells)
one_more f fs x c cells spelled deep cell ys are =
    elim (kept_or_null x.text (texts_of ys)) [
      | inl kept ↦ (x ∷ ys, sym kept, record { spelled = (spelled, are.spelled); deep = omega (arith, deep, are.deep); cells_are = rw (cell, are.cells_are) refl })
      | inr gone ↦
          let none = nil_from_length ys (sym (length-map ys (λ (y : Item). y.text)) ∙ ap length gone.1) in
          let others = ap (cells_of fs) (sym none) ∙ are.cells_are in
          ([], sym gone.2, record { spelled = tt; deep = omega arith; cells_are = rw (null_is_absent f x c spelled gone.0 cell, others) refl })
    ]

-- the fields without their nulls at the end are the items that are written
pub trim : (fs : List Field) (xs : List Item) (cells : List Cell) → AreCells fs xs cells → (ys : List Item) × (texts_of ys ≡ trimmed (texts_of xs)) × AreCells fs ys cells
trim fs [] cells are = ([], refl, are)
trim [] (x ∷ xs) cells are = absurd (none-some cells are.cells_are)
trim (f ∷ fs) (x ∷ xs) cells are =
    let a = bind_some (field_cell f x) (λ c. cells_of fs xs >>= λ cs. Some (c ∷ cs)) cells are.cells_are in
    let b = bind_some (cells_of fs xs) (λ cs. Some (a.0 ∷ cs)) cells a.2 in
    let others = trim fs xs b.0 (record { spelled = are.spelled.1; deep = omega (arith, are.deep); cells_are = b.1 }) in
    let all = one_more f fs x a.0 b.0 are.spelled.0 (omega (arith, are.deep)) a.1 others.0 others.2 in
    let texts : texts_of all.0 ≡ trimmed (texts_of (x ∷ xs)) = subst (λ (ts : List (List ℕ)). texts_of all.0 ≡ before_nulls x.text ts) others.1 all.1 in
    (all.0, texts, subst (λ (cs : List Cell). AreCells (f ∷ fs) all.0 cs) (same_Some (a.0 ∷ b.0) cells b.2) all.2)

-- Lengths. ------------------------------------------------------------------------------------------------------------

-- texts whose lengths stay below this together
abbrev pub AreBelow : ℕ → List (List ℕ) → Type 0
AreBelow n [] = Unit {0}
AreBelow n (text ∷ texts) = (length text < n) × AreBelow n texts

before_long : (text : List ℕ) (texts : List (List ℕ)) → (length text ≤ length (concat (before_nulls text texts)) + 1) × (length (concat texts) ≤ length (concat (before_nulls text texts)))
before_long text texts =
    let l = length-append text (concat texts) in
    elim (kept_or_null text texts) [
      | inl kept ↦ rw kept (omega (arith, l), omega (arith, l))
      | inr gone ↦ (omega (arith, ap length gone.0), rw gone.1 (omega arith))
    ]

-- nulls are short, and the others are still there
pub below : (n : ℕ) (texts : List (List ℕ)) → length (concat (trimmed texts)) + 1 < n → AreBelow n texts
below n [] h = tt
below n (text ∷ texts) h =
    let l = before_long text (trimmed texts) in
    (omega (arith, l.0), below n texts (omega (arith, l.1)))
