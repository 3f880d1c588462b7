-- Bytes for which a ring has room are put whole.
use Rattle.std.proofs.Common.{◌≡◌, ℕ, ◌+◌, ◌-◌, List, ◌++◌, length, take, min, ◌≤◌, ap, ◌∙◌, arith}
use Rattle.std.proofs.lemmas.List.{take_all}
use Rattle.circular_buffer.specs.Buffer.{Buffer, buffer}

pub filled : (n : ℕ) (old new : Buffer ℕ) (bytes : List ℕ) → n ≡ min (length bytes) (old.capacity - length old.items) → new ≡ buffer (old.items ++ take n bytes) old.capacity → length old.items + length bytes ≤ old.capacity → new ≡ buffer (old.items ++ bytes) old.capacity
filled n old new bytes count is fits = is ∙ ap (λ (x : List ℕ). buffer (old.items ++ x) old.capacity) (take_all n bytes (omega (arith, count, fits)))
