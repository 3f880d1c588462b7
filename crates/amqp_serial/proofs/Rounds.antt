-- Sums and distances round the end undo each other.
use Rattle.std.proofs.Common.{ℕ, ◌≡◌, ◌<◌, ◌^◌, arith}
use Rattle.amqp_serial.specs.Numbers.{sum_of, distance_of}

-- a number and the distance from it give the other one
pub sum-distance : (a b : ℕ) → a < 2 ^ 32 → b < 2 ^ 32 → sum_of a (distance_of a b) ≡ b
sum-distance a b p q = omega arith
