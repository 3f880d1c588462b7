-- What is read and kept.
use Rattle.std.specs.Prelude.{ℕ, Bool, false, ◌||◌, List, [], ◌∷◌, Some, Ok}
use Rattle.std.specs.Str.{bytes_eq}
use Rattle.amqp_types.specs.Reading.{Read, ◌>>=◌, value_of}
use Rattle.amqp_types.specs.Trees.{Tree}

-- the value that the bytes begin with, within limits of depth and nodes, and the bytes after it
abbrev pub decoded : ℕ → ℕ → List ℕ → Read Tree
decoded depth nodes bytes = value_of depth (Some nodes) bytes >>= λ x. Ok (x.0, x.2)

-- whether a byte string is among these
abbrev pub is_among : List ℕ → List (List ℕ) → Bool
is_among octets [] = false
is_among octets (x ∷ xs) = bytes_eq x octets || is_among octets xs
