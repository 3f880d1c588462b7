-- Two lists of open deliveries, one behind the other: what is found in both together.
use Rattle.std.proofs.Common.{arith, ◌≡◌, ℕ, ◌<◌, ◌≤◌, ◌⊎◌, inl, inr, Bool, true, false, List, ◌++◌, refl, sym, ap, ◌∙◌, Option, Some, None, IsSome, Result, Ok, Err, OnOk, OnErr, is_ok, subst}
use Rattle.std.specs.Prelude.{is_some, nat_eq, if◌then◌else◌}
use Rattle.std.proofs.lemmas.Bool.{eqb-true, eq-eqb, ltb-true, ltb-false, cases_order}
use Rattle.amqp_session.specs.declared.index.Kept.{Kept}
use Rattle.amqp_session.specs.Indexes.{found, is_before, IsPut, IsNext}
use Rattle.amqp_session.specs.Recents.{AreApart, FindsAlike}
use Rattle.amqp_session.proofs.Recents.{or_else, found_joined, false_true, none_some}

-- in the first, or else in the second
pub in_first : (a b : List (ℕ × Kept)) (q : ℕ) (x : Kept) → found a q ≡ Some x → found (a ++ b) q ≡ Some x
in_first a b q x here = found_joined a b q ∙ ap (λ (o : Option Kept). or_else o (found b q)) here

pub in_second : (a b : List (ℕ × Kept)) (q : ℕ) → found a q ≡ None → found (a ++ b) q ≡ found b q
in_second a b q none = found_joined a b q ∙ ap (λ (o : Option Kept). or_else o (found b q)) none

-- in neither where not in both together
pub not_in_first : (a b : List (ℕ × Kept)) (q : ℕ) → found (a ++ b) q ≡ None → found a q ≡ None
not_in_first a b q none = by (found a q) refl
  where
    by : (o : Option Kept) → found a q ≡ o → found a q ≡ None
    by None e = e
    by (Some x) e = absurd (none_some (sym none ∙ in_first a b q x e))

pub not_in_second : (a b : List (ℕ × Kept)) (q : ℕ) → found (a ++ b) q ≡ None → found b q ≡ None
not_in_second a b q none = sym (in_second a b q (not_in_first a b q none)) ∙ none

-- One is put in, or taken out. ------------------------------------------------------------------------------------------------

-- what is there after it
abbrev pub after : ℕ → Option Kept → ℕ → Option Kept → Option Kept
after id o q was = if nat_eq id q then o else was

pub put_there : (old new : List (ℕ × Kept)) (id : ℕ) (o : Option Kept) → IsPut old new id o → found new id ≡ o
put_there old new id o put = put id ∙ ap (λ (t : Bool). if t then o else found old id) (eq-eqb id id refl)

pub put_elsewhere : (old new : List (ℕ × Kept)) (id : ℕ) (o : Option Kept) → IsPut old new id o → (q : ℕ) → nat_eq id q ≡ false → found new q ≡ found old q
put_elsewhere old new id o put q other = put q ∙ ap (λ (t : Bool). if t then o else found old q) other

-- an id, or another
pub by_id : (id q : ℕ) (P : ℕ → Type 0) → P id → (nat_eq id q ≡ false → P q) → P q
by_id id q P here there = by (nat_eq id q) refl
  where
    by : (t : Bool) → nat_eq id q ≡ t → P q
    by true is = subst P (eqb-true id q is) here
    by false is = there is

-- put into the first
pub put_first : (a b c : List (ℕ × Kept)) (id : ℕ) (x : Kept) → IsPut a c id (Some x) → IsPut (a ++ b) (c ++ b) id (Some x)
put_first a b c id x put q = by (nat_eq id q) refl
  where
    by : (t : Bool) → nat_eq id q ≡ t → found (c ++ b) q ≡ (if t then Some x else found (a ++ b) q)
    by true is = in_first c b q x (put q ∙ ap (λ (t : Bool). if t then Some x else found a q) is)
    by false is = found_joined c b q ∙ ap (λ (o : Option Kept). or_else o (found b q)) (put_elsewhere a c id (Some x) put q is) ∙ sym (found_joined a b q)

-- put into the second
pub put_second : (a b c : List (ℕ × Kept)) (id : ℕ) (o : Option Kept) → found a id ≡ None → IsPut b c id o → IsPut (a ++ b) (a ++ c) id o
put_second a b c id o none put q = by (nat_eq id q) refl
  where
    by : (t : Bool) → nat_eq id q ≡ t → found (a ++ c) q ≡ (if t then o else found (a ++ b) q)
    by true is = in_second a c q (ap (found a) (sym (eqb-true id q is)) ∙ none) ∙ put q ∙ ap (λ (t : Bool). if t then o else found b q) is
    by false is = found_joined a c q ∙ ap (λ (o : Option Kept). or_else (found a q) o) (put_elsewhere b c id o put q is) ∙ sym (found_joined a b q)

-- taken out of both
pub out_of_both : (a b c d : List (ℕ × Kept)) (id : ℕ) → IsPut a c id None → IsPut b d id None → IsPut (a ++ b) (c ++ d) id None
out_of_both a b c d id first second q = by (nat_eq id q) refl
  where
    by : (t : Bool) → nat_eq id q ≡ t → found (c ++ d) q ≡ (if t then None else found (a ++ b) q)
    by true is = in_second c d q (first q ∙ ap (λ (t : Bool). if t then None else found a q) is) ∙ second q ∙ ap (λ (t : Bool). if t then None else found b q) is
    by false is =
        found_joined c d q ∙ ap (λ (o : Option Kept). or_else o (found d q)) (put_elsewhere a c id None first q is)
        ∙ ap (λ (o : Option Kept). or_else (found a q) o) (put_elsewhere b d id None second q is) ∙ sym (found_joined a b q)

-- taken from the first to the second
pub moved : (a b c d : List (ℕ × Kept)) (id : ℕ) (x : Kept) → found a id ≡ Some x → IsPut a c id None → IsPut b d id (Some x) → FindsAlike (a ++ b) (c ++ d)
moved a b c d id x here first second q =
    by_id id q (λ n. found (c ++ d) n ≡ found (a ++ b) n)
    (in_second c d id (put_there a c id None first) ∙ put_there b d id (Some x) second ∙ sym (in_first a b id x here))
    (λ is.
    found_joined c d q ∙ ap (λ (o : Option Kept). or_else o (found d q)) (put_elsewhere a c id None first q is)
    ∙ ap (λ (o : Option Kept). or_else (found a q) o) (put_elsewhere b d id (Some x) second q is) ∙ sym (found_joined a b q))

-- the same is found after it
pub put_alike : (old mid new : List (ℕ × Kept)) (id : ℕ) (o : Option Kept) → IsPut old mid id o → FindsAlike mid new → IsPut old new id o
put_alike old mid new id o put alike q = alike q ∙ put q

-- No id in both. ------------------------------------------------------------------------------------------------------------

no_more : (o p : Option Kept) → o ≡ p → IsSome o → IsSome p
no_more o p e some = ap is_some (sym e) ∙ some

-- one is put into the first that is not in the second
pub apart_first : (a b c : List (ℕ × Kept)) (id : ℕ) (o : Option Kept) → AreApart a b → found b id ≡ None → IsPut a c id o → AreApart c b
apart_first a b c id o apart none put q = by_id id q (λ n. IsSome (found c n) → found b n ≡ None) (λ some. none) (λ is some. apart q (no_more (found c q) (found a q) (put_elsewhere a c id o put q is) some))

-- one into the second that is not in the first
pub apart_second : (a b c : List (ℕ × Kept)) (id : ℕ) (o : Option Kept) → AreApart a b → found a id ≡ None → IsPut b c id o → AreApart a c
apart_second a b c id o apart none put q =
    by_id id q (λ n. IsSome (found a n) → found c n ≡ None) (λ some. absurd (false_true (ap is_some (sym none) ∙ some))) (λ is some. put_elsewhere b c id o put q is ∙ apart q some)

-- Answers. --------------------------------------------------------------------------------------------------------------------

pub on_ok : {X E : Type 0} (r : Result X E) (P Q : Type 0) → (P → Q) → OnOk r P → OnOk r Q
on_ok (Ok x) P Q so h = so h
on_ok (Err e) P Q so h = h

pub of_ok : {X E : Type 0} (r : Result X E) (P : Type 0) → is_ok r ≡ true → OnOk r P → P
of_ok (Ok x) P is h = h
of_ok (Err e) P is h = absurd (false_true is)

-- nothing is put in where there was no memory
pub still_apart : {X E : Type 0} (r : Result X E) (a b c : List (ℕ × Kept)) (id : ℕ) (x : Kept) → AreApart a b → found a id ≡ None → OnOk r (IsPut b c id (Some x)) → OnErr r (c ≡ b) → AreApart a c
still_apart (Ok y) a b c id x apart none put same = apart_second a b c id (Some x) apart none put
still_apart (Err e) a b c id x apart none put same = subst (AreApart a) (sym same) apart

-- The next one. ---------------------------------------------------------------------------------------------------------------

-- the first id stands in the first
pub next_at_once : (a b : List (ℕ × Kept)) (from last : ℕ) (x : Kept) → from ≤ last → found a from ≡ Some x → IsNext (a ++ b) from last (Some (from, x))
next_at_once a b from last x order here = (omega (arith), order, in_first a b from x here, λ q l m. absurd (omega (arith, l, m)))

-- none in the first
pub next_second : (a b : List (ℕ × Kept)) (from last : ℕ) (other : Option (ℕ × Kept)) → IsNext a from last None → IsNext b from last other → IsNext (a ++ b) from last other
next_second a b from last None first second = λ q l m. in_second a b q (first q l m) ∙ second q l m
next_second a b from last (Some e) first second =
    (second.0, second.1, in_second a b e.0 (first e.0 second.0 second.1) ∙ second.2, λ q l m. in_second a b q (first q l (let high = second.1 in omega (arith, m, high))) ∙ second.3 q l m)

-- that of the first comes before that of the second
pub next_first : (a b : List (ℕ × Kept)) (from last : ℕ) (e : ℕ × Kept) (other : Option (ℕ × Kept)) → IsNext a from last (Some e) → IsNext b from last other → is_before e.0 other ≡ true → IsNext (a ++ b) from last (Some e)
next_first a b from last e None first second before =
    (first.0, first.1, in_first a b e.0 e.1 first.2, λ q l m. in_second a b q (first.3 q l m) ∙ second q l (let high = first.1 in omega (arith, m, high)))
next_first a b from last e (Some o) first second before =
    let less = ltb-true e.0 o.0 before in
    (first.0, first.1, in_first a b e.0 e.1 first.2, λ q l m. in_second a b q (first.3 q l m) ∙ second.3 q l (omega (arith, m, less)))

-- it does not
pub next_other : (a b : List (ℕ × Kept)) (from last : ℕ) (e : ℕ × Kept) (other : Option (ℕ × Kept)) → AreApart a b → IsNext a from last (Some e) → IsNext b from last other → is_before e.0 other ≡ false → IsNext (a ++ b) from last other
next_other a b from last e None apart first second before = absurd (false_true (sym before))
next_other a b from last e (Some o) apart first second before = (second.0, second.1, in_second a b o.0 none ∙ second.2, λ q l m. in_second a b q (first.3 q l (omega (arith, m, less))) ∙ second.3 q l m)
  where
    less : o.0 ≤ e.0
    less = ltb-false e.0 o.0 before

    none : found a o.0 ≡ None
    none = by (cases_order o.0 e.0)
      where
        by : (o.0 ≡ e.0) ⊎ ((o.0 < e.0) ⊎ (e.0 < o.0)) → found a o.0 ≡ None
        by (inl is) = absurd (none_some (sym (apart o.0 (ap is_some (ap (found a) is ∙ first.2))) ∙ second.2))
        by (inr (inl l)) = first.3 o.0 second.0 l
        by (inr (inr l)) = absurd (omega (arith, l, less))
