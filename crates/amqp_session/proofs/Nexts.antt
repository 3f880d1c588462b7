-- Nothing stands before the first of a range.
use Rattle.std.proofs.Common.{arith, ◌≡◌, ◌≤◌, ◌<◌, ℕ, Option, Some, None, IsSome, refl, false}
use Rattle.std.proofs.lemmas.Grind.{common_steps}
use Rattle.std.proofs.lemmas.Map.Keys.{le_from_not_gt}
use Rattle.std.specs.Ordering.{nat_cmp, is_gt}
use Rattle.amqp_session.specs.declared.index.Kept.{Kept}

not_gt : (a b : ℕ) → a ≤ b → is_gt (nat_cmp a b) ≡ false
not_gt a b h = grind (arith, common_steps, h)

pub none_between : (from last id q : ℕ) (o : Option Kept) → from ≤ q → q ≤ last → q < id →
    (is_gt (nat_cmp from q) ≡ false → is_gt (nat_cmp q last) ≡ false → IsSome o → is_gt (nat_cmp id q) ≡ false) → o ≡ None
none_between from last id q None a b l h = refl
none_between from last id q (Some p) a b l h = absurd (omega (arith, l, le_from_not_gt id q (h (not_gt from q a) (not_gt q last b) refl)))
