-- Which octets pass as a string's and as a symbol's.
use Rattle.std.proofs.Common.{◌≡◌, ℕ, ◌≤◌, false, not, is_some, List, Option, Some, None, refl, arith}
use Rattle.std.specs.Prelude.{slice_index}
use Rattle.std.specs.Str.{is_utf8, IsUtf8}
use Rattle.std.specs.List.{position}
use Rattle.std.proofs.lemmas.Bool.{false_from_ne_true}
use Rattle.std.proofs.lemmas.Str.{IsUtf8-from_is_utf8}
use Rattle.amqp_types.specs.Reading.{is_beyond_ascii}
use Rattle.amqp_types.proofs.Sound.{IsAscii-from_position}

-- bytes that are no UTF-8 fail its test
pub utf8_fails : (octets : List ℕ) → (IsUtf8 octets → ⊥) → is_utf8 octets ≡ false
utf8_fails octets never = false_from_ne_true (is_utf8 octets) (λ e. never (IsUtf8-from_is_utf8 octets e))

-- a byte beyond ASCII fails its test
pub ascii_fails : (octets : List ℕ) (i : ℕ) → 128 ≤ slice_index octets i → not (is_some (position is_beyond_ascii octets)) ≡ false
ascii_fails octets i high = tested (position is_beyond_ascii octets) refl
  where
    tested : (o : Option ℕ) → position is_beyond_ascii octets ≡ o → not (is_some o) ≡ false
    tested None e = let low = IsAscii-from_position octets e i in absurd (omega arith)
    tested (Some n) e = refl
