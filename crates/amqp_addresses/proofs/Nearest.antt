-- The line of an address.
use Rattle.std.proofs.Common.{arith, ◌≡◌, ℕ, zero, suc, ◌≤◌, Bool, true, false, List, [], ◌∷◌, length, refl, sym, ap, subst, ltb-false, Option, Some, None}
use Rattle.std.specs.Prelude.{nat_lt, nat_eq, bytes_eq, slice_get, if◌then◌else◌}
use Rattle.std.specs.List.{starts_with}
use Rattle.std.proofs.lemmas.Bool.{ltb-true}
use Rattle.std.proofs.lemmas.Option.{same_Some}
use Rattle.amqp_addresses.specs.Lines.{Said}
use Rattle.amqp_addresses.specs.Lookups.{is_exact, is_begun, admits, is_nearer, nearer, line_of, IsLine, IsUnknown}

-- What tests say. -------------------------------------------------------------------------------------------------------

differ : {A : Type 0} (b : Bool) → b ≡ true → b ≡ false → A
differ true x y = absurd (grind (arith, y))
differ false x y = absurd (grind (arith, x))

exact_by : (b e f : Bool) → (if b then false else e) ≡ true → (b ≡ false) × ((if b then f else e) ≡ true)
exact_by true e f h = absurd (grind (arith, h))
exact_by false e f h = (refl, h)

-- a line of this address alone is no prefix, and admits it
exact_is : (address : List ℕ) (s : Said) → is_exact address s ≡ true → (s.is_prefix ≡ false) × (admits address s ≡ true)
exact_is address s h = exact_by s.is_prefix (bytes_eq s.address address) (starts_with nat_eq address s.address) h

begun_by : (b e f : Bool) → (if b then f else false) ≡ true → (if b then f else e) ≡ true
begun_by true e f h = h
begun_by false e f h = absurd (grind (arith, h))

-- a prefix with which it begins admits it
begun_admits : (address : List ℕ) (s : Said) → is_begun address s ≡ true → admits address s ≡ true
begun_admits address s h = begun_by s.is_prefix (bytes_eq s.address address) (starts_with nat_eq address s.address) h

begun_prefix_by : (b f : Bool) → (if b then f else false) ≡ true → b ≡ true
begun_prefix_by true f h = refl
begun_prefix_by false f h = h

-- a nearer one is exact, or both are prefixes and it is the longer one
nearer_yes : (b c : Bool) (m n : ℕ) → (if b then (if c then nat_lt m n else true) else false) ≡ true → (b ≡ true) × (c ≡ true → m ≤ n)
nearer_yes true true m n h = (refl, λ _. let below = ltb-true m n h in omega (arith, below))
nearer_yes true false m n h = (refl, λ so. absurd (grind (arith, so)))
nearer_yes false c m n h = absurd (grind (arith, h))

nearer_no : (b c : Bool) (m n : ℕ) → (if b then (if c then nat_lt m n else true) else false) ≡ false → b ≡ true → (c ≡ true) × (n ≤ m)
nearer_no true true m n h so = (refl, ltb-false m n h)
nearer_no true false m n h so = absurd (grind (arith, h))
nearer_no false c m n h so = absurd (grind (arith, so))

-- What is found. --------------------------------------------------------------------------------------------------------

abbrev pub IsLineOf : List ℕ → List Said → Option Said → Type 0
IsLineOf address said None = IsUnknown address said
IsLineOf address said (Some s) = IsLine address said s

-- one line more in front
in_front : (address : List ℕ) (q : Said) (said : List Said) (b : Bool) → admits address q ≡ b → (o : Option Said) → IsLineOf address said o →
    IsLineOf address (q ∷ said) (nearer (if b then Some q else None) o)
in_front address q said true begins None none = record {
  stands = (0, refl);
  admits = begins;
  exact = exact;
  longest = longest;
}
  where
    exact : (i : ℕ) (x : Said) → slice_get (q ∷ said) i ≡ Some x → is_exact address x ≡ true → q.is_prefix ≡ false
    exact zero x is so = subst (λ (y : Said). y.is_prefix ≡ false) (sym (same_Some q x is)) (exact_is address x so).0
    exact (suc i) x is so = differ (admits address x) (exact_is address x so).1 (none i x is)

    longest : (i : ℕ) (x : Said) → slice_get (q ∷ said) i ≡ Some x → is_begun address x ≡ true → q.is_prefix ≡ true → length x.address ≤ length q.address
    longest zero x is so _ = let same = ap (λ (y : Said). length y.address) (same_Some q x is) in omega (arith, same)
    longest (suc i) x is so _ = differ (admits address x) (begun_admits address x so) (none i x is)
in_front address q said true begins (Some p) found = by (is_nearer q p) refl
  where
    by : (t : Bool) → is_nearer q p ≡ t → IsLineOf address (q ∷ said) (if t then Some p else Some q)
    by true near = record {
      stands = (suc found.stands.0, found.stands.1);
      admits = found.admits;
      exact = exact;
      longest = longest;
    }
      where
        exact : (i : ℕ) (x : Said) → slice_get (q ∷ said) i ≡ Some x → is_exact address x ≡ true → p.is_prefix ≡ false
        exact zero x is so =
            differ q.is_prefix (nearer_yes q.is_prefix p.is_prefix (length q.address) (length p.address) near).0
            (subst (λ (y : Said). y.is_prefix ≡ false) (sym (same_Some q x is)) (exact_is address x so).0)
        exact (suc i) x is so = found.exact i x is so

        longest : (i : ℕ) (x : Said) → slice_get (q ∷ said) i ≡ Some x → is_begun address x ≡ true → p.is_prefix ≡ true → length x.address ≤ length p.address
        longest zero x is so prefix =
            let same = ap (λ (y : Said). length y.address) (same_Some q x is) in
            let longer = (nearer_yes q.is_prefix p.is_prefix (length q.address) (length p.address) near).1 prefix in omega (arith, same, longer)
        longest (suc i) x is so prefix = found.longest i x is so prefix
    by false near = record {
      stands = (0, refl);
      admits = begins;
      exact = exact;
      longest = longest;
    }
      where
        not_prefix : (b : Bool) → q.is_prefix ≡ b → p.is_prefix ≡ false → q.is_prefix ≡ false
        not_prefix true is so = differ p.is_prefix (nearer_no q.is_prefix p.is_prefix (length q.address) (length p.address) near is).0 so
        not_prefix false is so = is

        exact : (i : ℕ) (x : Said) → slice_get (q ∷ said) i ≡ Some x → is_exact address x ≡ true → q.is_prefix ≡ false
        exact zero x is so = subst (λ (y : Said). y.is_prefix ≡ false) (sym (same_Some q x is)) (exact_is address x so).0
        exact (suc i) x is so = not_prefix q.is_prefix refl (found.exact i x is so)

        longest : (i : ℕ) (x : Said) → slice_get (q ∷ said) i ≡ Some x → is_begun address x ≡ true → q.is_prefix ≡ true → length x.address ≤ length q.address
        longest zero x is so _ = let same = ap (λ (y : Said). length y.address) (same_Some q x is) in omega (arith, same)
        longest (suc i) x is so prefix =
            let no = nearer_no q.is_prefix p.is_prefix (length q.address) (length p.address) near prefix in
            let within = found.longest i x is so no.0 in
            let longer = no.1 in omega (arith, within, longer)
in_front address q said false begins None none = all
  where
    all : (i : ℕ) (x : Said) → slice_get (q ∷ said) i ≡ Some x → admits address x ≡ false
    all zero x is = subst (λ (y : Said). admits address y ≡ false) (same_Some q x is) begins
    all (suc i) x is = none i x is
in_front address q said false begins (Some p) found = record {
  stands = (suc found.stands.0, found.stands.1);
  admits = found.admits;
  exact = exact;
  longest = longest;
}
  where
    exact : (i : ℕ) (x : Said) → slice_get (q ∷ said) i ≡ Some x → is_exact address x ≡ true → p.is_prefix ≡ false
    exact zero x is so = differ (admits address x) (exact_is address x so).1 (subst (λ (y : Said). admits address y ≡ false) (same_Some q x is) begins)
    exact (suc i) x is so = found.exact i x is so

    longest : (i : ℕ) (x : Said) → slice_get (q ∷ said) i ≡ Some x → is_begun address x ≡ true → p.is_prefix ≡ true → length x.address ≤ length p.address
    longest zero x is so _ = differ (admits address x) (begun_admits address x so) (subst (λ (y : Said). admits address y ≡ false) (same_Some q x is) begins)
    longest (suc i) x is so prefix = found.longest i x is so prefix

-- what is found is the line of the address, or no line admits it
pub line_found : (address : List ℕ) (said : List Said) → IsLineOf address said (line_of address said)
line_found address [] = λ i s is. absurd (grind (arith, is))
line_found address (q ∷ said) = in_front address q said (admits address q) refl (line_of address said) (line_found address said)

-- the same of the line that was found
pub line_is : (address : List ℕ) (said : List Said) (o : Option Said) → o ≡ line_of address said → IsLineOf address said o
line_is address said o is = subst (λ (x : Option Said). IsLineOf address said x) (sym is) (line_found address said)
