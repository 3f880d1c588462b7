-- What stands where in the text of a position.
use Rattle.std.proofs.Common.{◌≡◌, ℕ, arith, List, [], ◌∷◌, ◌++◌, length, length-append, take, drop, refl, sym, ap, ◌∙◌, append_assoc}
use Rattle.std.specs.Int.{w64, to_be_bytes}
use Rattle.hex.specs.Hex.{encode_lower}
use Rattle.amqp_spool.specs.declared.position.Position.{Position}
use Rattle.amqp_spool.specs.Digits.{last_digits}
use Rattle.amqp_spool.specs.Positions.{IsPosition, position_front, position_text}
use Rattle.amqp_spool.specs.Sums.{sum_of}
use Rattle.amqp_spool.proofs.Placing.{part_at}
use Rattle.amqp_spool.proofs.LastDigits.{length-last_digits}
use Rattle.amqp_spool.proofs.PositionTexts.{length-hex}

module _ (p : Position) (is : IsPosition p) where
  abbrev spool : List ℕ
  spool = encode_lower p.spool

  abbrev number : List ℕ
  number = last_digits 20 p.number

  abbrev sum : List ℕ
  sum = encode_lower (to_be_bytes w64 (sum_of p.spool (position_front p)))

  abbrev to_number : List ℕ
  to_number = spool ++ 32 ∷ []

  whole : position_text p ≡ spool ++ 32 ∷ number ++ 32 ∷ sum ++ 10 ∷ []
  unfolding position_text position_front
  whole = refl

  whole_too : position_text p ≡ to_number ++ number ++ 32 ∷ sum ++ 10 ∷ []
  whole_too = whole ∙ ap (λ (l : List ℕ). l ++ 32 ∷ sum ++ 10 ∷ []) (sym (append_assoc spool (32 ∷ []) number))

  long_spool : length spool ≡ 32
  long_spool = omega (arith, length-hex p.spool, is.spool)

  long_number : length to_number ≡ 33
  long_number = omega (arith, length-append spool (32 ∷ []), long_spool)

  long_sum : length sum ≡ 16
  long_sum = length-hex (to_be_bytes w64 (sum_of p.spool (position_front p)))

  pub position_long : length (position_text p) ≡ 71
  position_long =
      ap (λ (l : List ℕ). length l) whole_too
      ∙ omega (arith, length-append (to_number ++ number ++ 32 ∷ sum) (10 ∷ []), length-append (to_number ++ number) (32 ∷ sum), length-append to_number number, long_number, length-last_digits 20 p.number, long_sum)

  pub spool_at : (text : List ℕ) → text ≡ position_text p → take 32 text ≡ spool
  spool_at text e = ap (λ (l : List ℕ). take 32 l) (e ∙ whole) ∙ part_at [] spool ((32 ∷ number) ∷ (32 ∷ sum) ∷ (10 ∷ []) ∷ []) 0 32 refl long_spool

  pub number_at : (text : List ℕ) → text ≡ position_text p → take 20 (drop 33 text) ≡ number
  number_at text e = ap (λ (l : List ℕ). take 20 (drop 33 l)) (e ∙ whole_too) ∙ part_at to_number number ((32 ∷ sum) ∷ (10 ∷ []) ∷ []) 33 20 long_number (length-last_digits 20 p.number)
