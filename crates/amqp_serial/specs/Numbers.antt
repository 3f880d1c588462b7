-- Sequence numbers of 32 bits, in plain arithmetic modulo 2^32 [RFC 1982 section 3; AMQP 1.0, 2.8.10].
use Rattle.std.specs.Prelude.{ℕ, ◌≡◌, ◌+◌, ◌-◌, ◌%◌, ◌^◌, ◌<◌, ◌≤◌}

-- the number n steps after a [RFC 1982, 3.1]
abbrev pub sum_of : ℕ → ℕ → ℕ
sum_of a n = (a + n) % 2 ^ 32

-- the steps from `start` up to `to`, wrapping around if `to` is the smaller number: (to - start) mod 2^32
abbrev pub distance_of : ℕ → ℕ → ℕ
distance_of start to = (to + (2 ^ 32 - start)) % 2 ^ 32

-- a is before b if b is 1 to 2^31 - 1 steps ahead; exactly 2^31 steps count as behind [RFC 1982, 3.2]
abbrev pub IsBefore : ℕ → ℕ → Type 0
IsBefore a b = (0 < distance_of a b) × (distance_of a b < 2 ^ 31)

-- x is one of the numbers from first to last; none is, if last is 2^31 steps or more ahead [AMQP 1.0, 2.7.6]
abbrev pub IsInRange : ℕ → ℕ → ℕ → Type 0
IsInRange first last x = (distance_of first last < 2 ^ 31) × (distance_of first x ≤ distance_of first last)

-- b is n steps after a, for some n from 1 to 2^31 - 1 [RFC 1982, 3.1: at most that may be added]
abbrev pub IsAddition : ℕ → ℕ → Type 0
IsAddition a b = (n : ℕ) × (0 < n) × (n < 2 ^ 31) × (b ≡ sum_of a n)

-- x is k steps after first, for some k of at most n
abbrev pub IsWithin : ℕ → ℕ → ℕ → Type 0
IsWithin first n x = (k : ℕ) × (k ≤ n) × (x ≡ sum_of first k)
