-- A buffer of a fixed length whose front is filled, and which is zeroed as far as it was ever lent.
use Rattle.std.specs.Prelude.{ℕ, ◌+◌, max, List, ◌++◌, length, take, drop}

pub record Filled : Type 0 where
  pub filled : List ℕ
  pub spare : List ℕ  -- the bytes behind it, which say nothing
  pub reach : ℕ  -- how many of those were lent or filled before

-- the length of the buffer
abbrev pub whole_length : Filled → ℕ
whole_length s = length s.filled + length s.spare

-- `ws` written over the front of `bytes`
abbrev pub over : List ℕ → List ℕ → List ℕ
over ws bytes = take (length bytes) (ws ++ drop (length ws) bytes)

-- the buffer once `ws` was written over the n lent bytes after the filled ones. A slice keeps the length with which it was lent;
-- of a longer list, only as much would be written as was ever lent
abbrev pub with_spare : Filled → ℕ → List ℕ → Filled
with_spare s n ws = record s { spare = over (take (max s.reach n) ws) s.spare; reach = max s.reach n }
