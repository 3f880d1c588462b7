-- How many segments there are after one was put before the newest, or in its place.
use Rattle.std.proofs.Common.{◌≡◌, ℕ, ◌+◌, ◌≤◌, arith, Bool, true, false, eqb, cond, List, [], ◌∷◌, length, Some, slice_get, sym, ap, ◌∙◌}
use Rattle.std.proofs.lemmas.Bool.Decides.{nat_tests}
use Rattle.amqp_spool.specs.Counting.{but}
use Rattle.amqp_spool.specs.declared.segments.Named.{Named}

same_first : (first other : ℕ) → eqb first other ≡ true → eqb other first ≡ true
same_first first other same = grind (arith, nat_tests)

pub but_less : (ns : List Named) (n : Named) (first : ℕ) → Some n ≡ slice_get ns 0 → eqb first n.first ≡ true → length (but first ns) + 1 ≡ length ns
but_less [] n first is same = cc is
but_less (m ∷ ns) n first is same =
    let head : n ≡ m = cc is in
    let at : eqb m.first first ≡ true = ap (λ (k : Named). eqb k.first first) (sym head) ∙ same_first first n.first same in
    ap (λ (b : Bool). length (cond b ns (m ∷ ns)) + 1) at ∙ omega arith

of_both : (b : Bool) (m : Named) (ns : List Named) → length (cond b ns (m ∷ ns)) ≤ length ns + 1
of_both true m ns = omega arith
of_both false m ns = omega arith

pub but_most : (ns : List Named) (first : ℕ) → length (but first ns) ≤ length ns
but_most [] first = omega arith
but_most (m ∷ ns) first = omega (arith, of_both (eqb m.first first) m ns)
