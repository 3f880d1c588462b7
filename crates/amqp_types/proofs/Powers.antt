-- What one byte holds, any byte or more hold.
use Rattle.std.proofs.Common.{ℕ, ◌^◌, ◌≤◌, arith}
use Rattle.std.proofs.Math.Nat.{pow-le-pow_right}

-- a number of some bytes may be a byte
pub pow_of_one : (n : ℕ) → 1 ≤ n → 256 ≤ 256 ^ n
pow_of_one n h = pow-le-pow_right {n = 256} (omega arith) h
