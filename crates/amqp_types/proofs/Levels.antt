-- The levels of depth that are left.
use Rattle.std.proofs.Common.{◌≡◌, ℕ, zero, suc, ◌+◌, ◌<◌, true, is_some, Some, None, refl, subst, arith}
use Rattle.amqp_types.specs.Reading.{inside, level_by}

-- at depth 0 there is no level
pub inside_zero : (d : ℕ) → d ≡ 0 → inside d ≡ None
unfolding inside
inside_zero zero e = refl
inside_zero (suc d) e = absurd (omega arith)

-- at any other there is one, with the next inside
pub inside_more : (d n : ℕ) → n + 1 ≡ d → inside d ≡ Some (level_by (inside n))
unfolding inside
inside_more d n e = let s : suc n ≡ d = omega arith in subst (λ (x : ℕ). inside x ≡ Some (level_by (inside n))) s refl

-- so there is one
pub inside_some : (d : ℕ) → 0 < d → is_some (inside d) ≡ true
unfolding inside
inside_some zero h = absurd (omega arith)
inside_some (suc d) h = refl
