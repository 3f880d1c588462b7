-- The first of several faults, where there is none.
use Rattle.std.proofs.Common.{arith, ◌≡◌, Bool, true, false, Option, Some, None, refl}
use Rattle.amqp_session.specs.Faults.{or_else, where_so}

-- where neither of two is a fault, the first is none, and the second
pub neither : {A : Type 0} (a b : Option A) → or_else a b ≡ None → (a ≡ None) × (b ≡ None)
neither None b e = (refl, e)
neither (Some a) b e = absurd (grind (arith, e))

-- a test that would give a fault does not hold
pub not_so : {A : Type 0} (b : Bool) (a : A) → where_so b a ≡ None → b ≡ false
not_so true a e = absurd (grind (arith, e))
not_so false a e = refl
