-- Texts without the nulls at their end.
use Rattle.std.proofs.Common.{◌≡◌, ℕ, zero, suc, ◌+◌, ◌-◌, ◌<◌, ◌≤◌, Bool, true, false, cond, List, [], ◌∷◌, ◌++◌, length, take, get_or, length-append, refl, sym, ap, ◌∙◌, arith, inl, inr, ◌⊎◌}
use Rattle.std.proofs.Math.Seq.{take-suc}
use Rattle.std.proofs.lemmas.List.{map-append, length-map, length-take-le}
use Rattle.std.specs.List.{concat}
use Rattle.std.specs.Str.{bytes_eq}
use Rattle.std.proofs.lemmas.Slice.Eq.{bytes_eq-Decides}
use Rattle.amqp_perform.specs.declared.field_text.FieldText.{FieldText}
use Rattle.amqp_perform.specs.Frames.{null_text, before_nulls, trimmed, field_spelling, field_spellings}

-- a null at the end is left out
pub null_trimmed : (xs : List (List ℕ)) (x : List ℕ) → bytes_eq x null_text ≡ true → trimmed (xs ++ x ∷ []) ≡ trimmed xs
null_trimmed [] x is = rw is refl
null_trimmed (y ∷ ys) x is = ap (before_nulls y) (null_trimmed ys x is)

kept_before : (xs : List (List ℕ)) (x y : List ℕ) → before_nulls y (xs ++ x ∷ []) ≡ y ∷ (xs ++ x ∷ [])
kept_before [] x y = refl
kept_before (z ∷ zs) x y = refl

-- where the last is no null, none is left out
pub other_trimmed : (xs : List (List ℕ)) (x : List ℕ) → bytes_eq x null_text ≡ false → trimmed (xs ++ x ∷ []) ≡ xs ++ x ∷ []
other_trimmed [] x is = rw is refl
other_trimmed (y ∷ ys) x is = ap (before_nulls y) (other_trimmed ys x is) ∙ kept_before ys x y

one_more : (values : List FieldText) (n : ℕ) (d : FieldText) → n < length values
    → field_spellings (take (suc n) values) ≡ field_spellings (take n values) ++ field_spelling (get_or values n d) ∷ []
one_more values n d lt = ap field_spellings (take-suc values n d lt) ∙ map-append field_spelling (take n values) (get_or values n d ∷ [])

-- whether the last of so many values is null
last_is : (values : List FieldText) (n : ℕ) (d : FieldText) (is_null : Bool) → is_null ≡ bytes_eq (field_spelling (get_or values (suc n - 1) d)) null_text
    → bytes_eq (field_spelling (get_or values n d)) null_text ≡ is_null
last_is values n d is_null same =
    let e : suc n - 1 ≡ n = omega arith in
    ap (λ (m : ℕ). bytes_eq (field_spelling (get_or values m d)) null_text) (sym e) ∙ sym same

-- a last field that is no null stays
pub trimmed_last : (values : List FieldText) (count : ℕ) (d : FieldText) (is_null : Bool) → 0 < count → count ≤ length values
    → is_null ≡ bytes_eq (field_spelling (get_or values (count - 1) d)) null_text → is_null ≡ true
    → trimmed (field_spellings (take count values)) ≡ trimmed (field_spellings (take (count - 1) values))
trimmed_last values zero d is_null some le same is = absurd (omega arith)
trimmed_last values (suc n) d is_null some le same is =
    ap trimmed (one_more values n d (omega arith))
    ∙ null_trimmed (field_spellings (take n values)) (field_spelling (get_or values n d)) (last_is values n d is_null same ∙ is)
    ∙ ap (λ (m : ℕ). trimmed (field_spellings (take m values))) (omega arith)

-- one that is a null goes
pub trimmed_all : (values : List FieldText) (count : ℕ) (d : FieldText) (is_null : Bool) → 0 < count → count ≤ length values
    → is_null ≡ bytes_eq (field_spelling (get_or values (count - 1) d)) null_text → is_null ≡ false
    → trimmed (field_spellings (take count values)) ≡ field_spellings (take count values)
trimmed_all values zero d is_null some le same is = absurd (omega arith)
trimmed_all values (suc n) d is_null some le same is =
    let parts = one_more values n d (omega arith) in
    ap trimmed parts
    ∙ other_trimmed (field_spellings (take n values)) (field_spelling (get_or values n d)) (last_is values n d is_null same ∙ is)
    ∙ sym parts

-- a text is kept, or is a null with none behind it
pub kept_or_null : (text : List ℕ) (texts : List (List ℕ)) → (before_nulls text texts ≡ text ∷ texts) ⊎ ((text ≡ null_text) × (texts ≡ []) × (before_nulls text texts ≡ []))
kept_or_null text (next ∷ texts) = inl refl
kept_or_null text [] = by (bytes_eq text null_text) refl
  where
    by : (b : Bool) → bytes_eq text null_text ≡ b → (cond b [] (text ∷ []) ≡ text ∷ []) ⊎ ((text ≡ null_text) × (◌≡◌ {A = List (List ℕ)} [] []) × (cond b [] (text ∷ []) ≡ []))
    by true is = inr ((bytes_eq-Decides text null_text).0 is, refl, refl)
    by false is = inl refl

before_width : (text : List ℕ) (used : List (List ℕ)) (bytes items : ℕ) → bytes + length used ≡ length (concat used) + items
    → length text + bytes + length (before_nulls text used) ≡ length (concat (before_nulls text used)) + suc items
before_width text used bytes items same =
    elim (kept_or_null text used) [
      | inl kept ↦ rw kept (omega (arith, length-append text (concat used), same))
      | inr gone ↦ rw gone.2 (omega (arith, ap length gone.0, ap length gone.1, ap (λ (x : List (List ℕ)). length (concat x)) gone.1, same))
    ]

all_width : (texts : List (List ℕ)) → length (concat texts) + length (trimmed texts) ≡ length (concat (trimmed texts)) + length texts
all_width [] = refl
all_width (text ∷ texts) =
    ap (λ (n : ℕ). n + length (trimmed (text ∷ texts))) (length-append text (concat texts))
    ∙ before_width text (trimmed texts) (length (concat texts)) (length texts) (all_width texts)

-- the values that are left out have one byte each
pub trimmed_width : (values : List FieldText) (used : ℕ) → used ≤ length values → trimmed (field_spellings values) ≡ field_spellings (take used values)
    → length (concat (field_spellings values)) + used ≡ length (concat (field_spellings (take used values))) + length values
trimmed_width values used le same =
    let all = all_width (field_spellings values) in
    let kept : length (trimmed (field_spellings values)) ≡ used = ap length same ∙ length-map (take used values) field_spelling ∙ length-take-le used values le in
    let joined : length (concat (trimmed (field_spellings values))) ≡ length (concat (field_spellings (take used values))) = ap (λ (x : List (List ℕ)). length (concat x)) same in
    omega (arith, all, kept, joined, length-map values field_spelling)

-- of six texts the last alone is null
pub sixth_trimmed : (a b c d e f : List ℕ) → bytes_eq e null_text ≡ false → bytes_eq f null_text ≡ true → trimmed (a ∷ b ∷ c ∷ d ∷ e ∷ f ∷ []) ≡ a ∷ b ∷ c ∷ d ∷ e ∷ []
sixth_trimmed a b c d e f stated null = null_trimmed (a ∷ b ∷ c ∷ d ∷ e ∷ []) f null ∙ other_trimmed (a ∷ b ∷ c ∷ d ∷ []) e stated
