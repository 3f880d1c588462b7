-- Decimal digits.
use Rattle.std.specs.Prelude.{ℕ, zero, suc, ◌+◌, ◌/◌, ◌%◌, List, [], ◌∷◌, ◌++◌}

-- the last decimal digits of a number, so many, in ASCII
unfoldable pub last_digits : ℕ → ℕ → List ℕ
last_digits zero n = []
last_digits (suc places) n = last_digits places (n / 10) ++ (48 + n % 10) ∷ []
