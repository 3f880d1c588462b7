-- The position of a consumer, and its name.
use Rattle.std.specs.Prelude.{◌≡◌, ℕ, ◌^◌, ◌<◌, ◌≤◌, ◌==◌, nat_le, Bool, ◌&&◌, ◌||◌, IsTrue, List, [], ◌∷◌, ◌++◌, length, slice_index}
use Rattle.std.specs.Int.{w64, to_be_bytes}
use Rattle.std.specs.List.{All}
use Rattle.hex.specs.Hex.{IsBytes, encode_lower}
use Rattle.amqp_spool.specs.declared.position.Position.{Position}
use Rattle.amqp_spool.specs.Digits.{last_digits}
use Rattle.amqp_spool.specs.Sums.{sum_of}

-- a position that there may be
pub record IsPosition (p : Position) : Type 0 where
  pub spool : length p.spool ≡ 16
  pub bytes : IsBytes p.spool
  pub number : p.number < 2 ^ 64

-- The spool in hex, a space, and the number in 20 decimal digits.
unfoldable pub position_front : Position → List ℕ
position_front p = encode_lower p.spool ++ 32 ∷ last_digits 20 p.number

-- After this a space, its sum in hex, and the end of the line.
unfoldable pub position_text : Position → List ℕ
position_text p = position_front p ++ 32 ∷ encode_lower (to_be_bytes w64 (sum_of p.spool (position_front p))) ++ 10 ∷ []

-- Names. --------------------------------------------------------------------------------------------------------------

-- `a` to `z`, and `0` to `9`
abbrev pub is_letter_or_digit : ℕ → Bool
is_letter_or_digit c = (nat_le 97 c && nat_le c 122) || (nat_le 48 c && nat_le c 57)

-- these, `-` and `_`
abbrev pub is_name_char : ℕ → Bool
is_name_char c = is_letter_or_digit c || c == 45 || c == 95

-- The name of a consumer: 1 to 64 such characters, which have one byte each, the first a letter or a digit.
pub record IsName (name : List ℕ) : Type 0 where
  pub some : 1 ≤ length name
  pub short : length name ≤ 64
  pub first : IsTrue (is_letter_or_digit (slice_index name 0))
  pub all : All (λ c. IsTrue (is_name_char c)) name
