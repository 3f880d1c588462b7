-- No two lines say the same.
use Rattle.std.proofs.Common.{arith, ◌≡◌, ℕ, zero, suc, ◌≤◌, ◌⊎◌, inl, inr, Bool, true, false, List, [], ◌∷◌, ◌++◌, length, take, refl, ap, sym, ◌∙◌, subst, ltb-false, Option, Some, None}
use Rattle.std.specs.Prelude.{nat_lt, nat_eq, bytes_eq, not, ◌&&◌, ◌||◌, slice_get, if◌then◌else◌, Result, Ok, Err}
use Rattle.std.specs.List.{list_any, starts_with}
use Rattle.std.proofs.lemmas.Bool.{ltb-true}
use Rattle.std.proofs.lemmas.Option.{same_Some, slice_get_within}
use Rattle.std.proofs.lemmas.Slice.Eq.{bytes_eq-Decides}
use Rattle.amqp_addresses.specs.declared.faults.LineFault.{LineFault}
use Rattle.amqp_addresses.specs.Lines.{Said}
use Rattle.amqp_addresses.specs.Files.{is_same, NoTwo}
use Rattle.amqp_addresses.specs.Lookups.{IsLine}
use Rattle.amqp_addresses.specs.Takings.{put_by, put, taken_by}

differ : {A : Type 0} (b : Bool) → b ≡ true → b ≡ false → A
differ true x y = absurd (grind (arith, y))
differ false x y = absurd (grind (arith, x))

-- One more. -------------------------------------------------------------------------------------------------------------

or_false : (a b : Bool) → (a || b) ≡ false → (a ≡ false) × (b ≡ false)
or_false true b h = absurd (grind (arith, h))
or_false false b h = (refl, h)

-- what none of them does, the one at a place does not
none_at : (p : Said → Bool) (said : List Said) (i : ℕ) (a : Said) → slice_get said i ≡ Some a → list_any p said ≡ false → p a ≡ false
none_at p [] i a is none = absurd (grind (arith, is))
none_at p (x ∷ said) zero a is none = subst (λ (y : Said). p y ≡ false) (same_Some x a is) (or_false (p x) (list_any p said) none).0
none_at p (x ∷ said) (suc i) a is none = none_at p said i a is (or_false (p x) (list_any p said) none).1

-- what stands at a place, with one more at the end
at_push : (said : List Said) (m : Said) (j : ℕ) (b : Said) → slice_get (said ++ m ∷ []) j ≡ Some b → (slice_get said j ≡ Some b) ⊎ ((j ≡ length said) × (b ≡ m))
at_push [] m zero b is = inr (refl, sym (same_Some m b is))
at_push [] m (suc j) b is = absurd (grind (arith, is))
at_push (x ∷ said) m zero b is = inl is
at_push (x ∷ said) m (suc j) b is = elim (at_push said m j b is) [ inl h ↦ inl h | inr h ↦ inr (ap suc h.0, h.1) ]

once_more : (said : List Said) (m : Said) → NoTwo said → list_any (λ s. is_same s m) said ≡ false → NoTwo (said ++ m ∷ [])
once_more said m once none i j a b low ia jb = last (at_push said m i a ia) (at_push said m j b jb)
  where
    last : (slice_get said i ≡ Some a) ⊎ ((i ≡ length said) × (a ≡ m)) → (slice_get said j ≡ Some b) ⊎ ((j ≡ length said) × (b ≡ m)) → is_same a b ≡ false
    last (inl ha) (inl hb) = once i j a b low ha hb
    last (inl ha) (inr hb) = subst (λ (y : Said). is_same a y ≡ false) (sym hb.1) (none_at (λ s. is_same s m) said i a ha none)
    last (inr ha) (inl hb) = let within = slice_get_within said j b hb in absurd (omega (arith, low, ha.0, within))
    last (inr ha) (inr hb) = absurd (omega (arith, low, ha.0, hb.0))

-- one more that was put behind them
put_once : (said said' : List Said) (m : Said) (t u : Bool) → nat_lt (length said) 1024 ≡ t → list_any (λ s. is_same s m) said ≡ u → NoTwo said → put said m ≡ Ok said' → NoTwo said'
put_once said said' m true false room none once is =
    let put_is : put_by said m None ≡ Ok said' = rw (room, none) at is in
    let whole : said ++ m ∷ [] ≡ said' = cc in
    subst (λ (x : List Said). NoTwo x) whole (once_more said m once none)
put_once said said' m true true room none once is =
    absurd (let bad = rw (room, none) at is in cc)
put_once said said' m false u room none once is =
    absurd (let bad = rw room at is in cc)

pub taken_once : (said said' : List Said) (r : Result (Option Said) LineFault) → NoTwo said → taken_by said r ≡ Ok said' → NoTwo said'
taken_once said said' (Err f) once is = absurd (cc)
taken_once said said' (Ok None) once is = let whole : said ≡ said' = cc in subst (λ (x : List Said). NoTwo x) whole once
taken_once said said' (Ok (Some m)) once is = put_once said said' m (nat_lt (length said) 1024) (list_any (λ s. is_same s m) said) refl refl once is

pub none_once : NoTwo []
none_once i j a b low ia jb = absurd (grind (arith, ia))

-- The line of an address. -----------------------------------------------------------------------------------------------

exact_by : (b e f : Bool) → b ≡ false → (if b then f else e) ≡ true → e ≡ true
exact_by true e f plain h = differ true refl plain
exact_by false e f plain h = h

is_exact_by : (b e : Bool) → b ≡ false → e ≡ true → (if b then false else e) ≡ true
is_exact_by true e plain h = differ true refl plain
is_exact_by false e plain h = h

begun_by : (b e f : Bool) → b ≡ true → (if b then f else e) ≡ true → f ≡ true
begun_by true e f star h = h
begun_by false e f star h = differ false star refl

is_begun_by : (b f : Bool) → b ≡ true → f ≡ true → (if b then f else false) ≡ true
is_begun_by true f star h = h
is_begun_by false f star h = differ false star refl

same_by : (p q e : Bool) → p ≡ q → e ≡ true → ((if p then q else not q) && e) ≡ true
same_by true true e h t = t
same_by true false e h t = differ true refl h
same_by false true e h t = differ true refl (sym h)
same_by false false e h t = t

module _ (address : List ℕ) (said : List Said) where
  equal : (s : Said) → s.is_prefix ≡ false → IsLine address said s → bytes_eq s.address address ≡ true
  equal s plain l = exact_by s.is_prefix (bytes_eq s.address address) (starts_with nat_eq address s.address) plain l.admits

  begins : (s : Said) → s.is_prefix ≡ true → IsLine address said s → starts_with nat_eq address s.address ≡ true
  begins s star l = begun_by s.is_prefix (bytes_eq s.address address) (starts_with nat_eq address s.address) star l.admits

  -- if one is no prefix, no other is
  no_other : (a b : Said) → IsLine address said a → IsLine address said b → a.is_prefix ≡ false → b.is_prefix ≡ false
  no_other a b la lb plain = lb.exact la.stands.0 a la.stands.1 (is_exact_by a.is_prefix (bytes_eq a.address address) plain (equal a plain la))

  -- if both are prefixes, neither is longer
  no_longer : (a b : Said) → IsLine address said a → IsLine address said b → a.is_prefix ≡ true → b.is_prefix ≡ true → length a.address ≤ length b.address
  no_longer a b la lb star too = lb.longest la.stands.0 a la.stands.1 (is_begun_by a.is_prefix (starts_with nat_eq address a.address) star (begins a star la)) too

  front : (s : Said) → s.is_prefix ≡ true → IsLine address said s → s.address ≡ take (length s.address) address
  front s star l = (bytes_eq-Decides s.address (take (length s.address) address)).0 (begins s star l)

  same_address : (a b : Said) → IsLine address said a → IsLine address said b → (t : Bool) → a.is_prefix ≡ t → (a.is_prefix ≡ b.is_prefix) × (a.address ≡ b.address)
  same_address a b la lb false plain =
      let other = no_other a b la lb plain in
      (plain ∙ sym other, (bytes_eq-Decides a.address address).0 (equal a plain la) ∙ sym ((bytes_eq-Decides b.address address).0 (equal b other lb)))
  same_address a b la lb true star = by b.is_prefix refl
    where
      by : (u : Bool) → b.is_prefix ≡ u → (a.is_prefix ≡ b.is_prefix) × (a.address ≡ b.address)
      by false plain = differ a.is_prefix star (no_other b a lb la plain)
      by true too =
          let less = no_longer a b la lb star too in
          let more = no_longer b a lb la too star in
          let long : length a.address ≡ length b.address = omega (arith, less, more) in
          (star ∙ sym too, front a star la ∙ ap (λ (n : ℕ). take n address) long ∙ sym (front b too lb))

  alike : (a b : Said) → IsLine address said a → IsLine address said b → is_same a b ≡ true
  alike a b la lb =
      let same = same_address a b la lb a.is_prefix refl in
      same_by a.is_prefix b.is_prefix (bytes_eq a.address b.address) same.0 ((bytes_eq-Decides a.address b.address).1 same.1)

-- an address has one line
pub one_line : (address : List ℕ) (said : List Said) (a b : Said) → NoTwo said → IsLine address said a → IsLine address said b → a ≡ b
one_line address said a b once la lb = by (nat_lt la.stands.0 lb.stands.0) (nat_lt lb.stands.0 la.stands.0) refl refl
  where
    by : (t u : Bool) → nat_lt la.stands.0 lb.stands.0 ≡ t → nat_lt lb.stands.0 la.stands.0 ≡ u → a ≡ b
    by true u less more =
        differ (is_same a b) (alike address said a b la lb) (once la.stands.0 lb.stands.0 a b (ltb-true la.stands.0 lb.stands.0 less) la.stands.1 lb.stands.1)
    by false true less more =
        differ (is_same b a) (alike address said b a lb la) (once lb.stands.0 la.stands.0 b a (ltb-true lb.stands.0 la.stands.0 more) lb.stands.1 la.stands.1)
    by false false less more =
        let low = ltb-false la.stands.0 lb.stands.0 less in
        let high = ltb-false lb.stands.0 la.stands.0 more in
        let at : la.stands.0 ≡ lb.stands.0 = omega (arith, low, high) in
        same_Some a b (sym la.stands.1 ∙ ap (λ (n : ℕ). slice_get said n) at ∙ lb.stands.1)
