-- What is found in a table of limits, and a table without fault.
use Rattle.std.proofs.Common.{arith, ◌≡◌, ℕ, zero, suc, ◌+◌, ◌≤◌, Bool, true, false, List, [], ◌∷◌, length, refl, sym, ap, ◌∙◌, subst, ltb-false, Option, Some, None}
use Rattle.std.specs.Prelude.{nat_lt, slice_get, if◌then◌else◌}
use Rattle.std.proofs.lemmas.Bool.{ltb-true}
use Rattle.std.proofs.lemmas.Option.{same_Some, slice_get_within}
use Rattle.amqp_link.specs.Bounds.{IsBounded}
use Rattle.amqp_endpoint.specs.Limits.{Limit, begins_with, longer, longest, IsLimitOf, IsGood, IsRepeated, AreFine, IsTable}

-- What is found. --------------------------------------------------------------------------------------------------------

differ : {A : Type 0} (b : Bool) → b ≡ true → b ≡ false → A
differ true x y = absurd (grind (arith, y))
differ false x y = absurd (grind (arith, x))

-- one limit more in front
in_front : (name : List ℕ) (q : Limit) (rows : List Limit) (b : Bool) → begins_with q.prefix name ≡ b → (o : Option Limit) → IsLimitOf name rows o →
    IsLimitOf name (q ∷ rows) (longer (if b then Some q else None) o)
in_front name q rows true begins None none = record {
  begins = begins;
  stands = (0, refl);
  most = most;
}
  where
    most : (i : ℕ) (x : Limit) → slice_get (q ∷ rows) i ≡ Some x → begins_with x.prefix name ≡ true → length x.prefix ≤ length q.prefix
    most zero x is so = let same = ap (λ (y : Limit). length y.prefix) (same_Some q x is) in omega (arith, same)
    most (suc i) x is so = differ (begins_with x.prefix name) so (none i x is)
in_front name q rows true begins (Some p) found = by (nat_lt (length q.prefix) (length p.prefix)) refl
  where
    by : (t : Bool) → nat_lt (length q.prefix) (length p.prefix) ≡ t → IsLimitOf name (q ∷ rows) (if t then Some p else Some q)
    by true less = record {
      begins = found.begins;
      stands = (suc found.stands.0, found.stands.1);
      most = most;
    }
      where
        most : (i : ℕ) (x : Limit) → slice_get (q ∷ rows) i ≡ Some x → begins_with x.prefix name ≡ true → length x.prefix ≤ length p.prefix
        most zero x is so =
            let same = ap (λ (y : Limit). length y.prefix) (same_Some q x is) in
            let shorter = ltb-true (length q.prefix) (length p.prefix) less in omega (arith, same, shorter)
        most (suc i) x is so = found.most i x is so
    by false more = record {
      begins = begins;
      stands = (0, refl);
      most = most;
    }
      where
        most : (i : ℕ) (x : Limit) → slice_get (q ∷ rows) i ≡ Some x → begins_with x.prefix name ≡ true → length x.prefix ≤ length q.prefix
        most zero x is so = let same = ap (λ (y : Limit). length y.prefix) (same_Some q x is) in omega (arith, same)
        most (suc i) x is so =
            let longer = ltb-false (length q.prefix) (length p.prefix) more in
            let within = found.most i x is so in omega (arith, longer, within)
in_front name q rows false begins None none = all
  where
    all : (i : ℕ) (x : Limit) → slice_get (q ∷ rows) i ≡ Some x → begins_with x.prefix name ≡ false
    all zero x is = ap (λ (y : Limit). begins_with y.prefix name) (sym (same_Some q x is)) ∙ begins
    all (suc i) x is = none i x is
in_front name q rows false begins (Some p) found = record {
  begins = found.begins;
  stands = (suc found.stands.0, found.stands.1);
  most = most;
}
  where
    most : (i : ℕ) (x : Limit) → slice_get (q ∷ rows) i ≡ Some x → begins_with x.prefix name ≡ true → length x.prefix ≤ length p.prefix
    most zero x is so = differ (begins_with x.prefix name) so (ap (λ (y : Limit). begins_with y.prefix name) (sym (same_Some q x is)) ∙ begins)
    most (suc i) x is so = found.most i x is so

-- what is found is the longest, or none where the name begins with none
pub longest_found : (name : List ℕ) (rows : List Limit) → IsLimitOf name rows (longest name rows)
longest_found name [] = λ i x is. absurd (grind (arith, is))
longest_found name (q ∷ rows) = in_front name q rows (begins_with q.prefix name) refl (longest name rows) (longest_found name rows)

-- of a table without fault its bounds are within their ranges
pub found_bounded : (name : List ℕ) (rows : List Limit) (r : Limit) → IsTable rows → longest name rows ≡ Some r → IsBounded r.bounds.allowed r.bounds.max_message_size
found_bounded name rows r table is =
    let found = subst (λ (o : Option Limit). IsLimitOf name rows o) is (longest_found name rows) in
    (table.fine found.stands.0 r (slice_get_within rows found.stands.0 r found.stands.1) found.stands.1).0.bounds

-- Faults. ---------------------------------------------------------------------------------------------------------------

-- one fine limit more
pub fine_more : (rows : List Limit) (n : ℕ) (q : Limit) → AreFine rows n → slice_get rows n ≡ Some q → IsGood q → (IsRepeated rows n q → ⊥) → AreFine rows (n + 1)
fine_more rows n q fine here good fresh i r low is = by (nat_lt i n) refl
  where
    by : (b : Bool) → nat_lt i n ≡ b → IsGood r × (IsRepeated rows i r → ⊥)
    by true less = fine i r (ltb-true i n less) is
    by false more =
        let over = ltb-false i n more in
        let at : i ≡ n = omega (arith, low, over) in
        let same : q ≡ r = same_Some q r (sym here ∙ ap (λ (j : ℕ). slice_get rows j) (sym at) ∙ is) in
        (subst IsGood same good, subst (λ (j : ℕ). IsRepeated rows j r → ⊥) (sym at) (subst (λ (x : Limit). IsRepeated rows n x → ⊥) same fresh))
