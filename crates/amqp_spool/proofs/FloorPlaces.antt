-- What stands where in a floor.
use Rattle.std.proofs.Common.{◌≡◌, ℕ, ◌<◌, ◌^◌, arith, List, [], ◌∷◌, ◌++◌, length, length-append, take, drop, refl, ap, ◌∙◌}
use Rattle.std.proofs.lemmas.Nat.{from_be_bytes-to_be_bytes_8}
use Rattle.std.specs.Int.{w64, to_be_bytes, from_be_bytes}
use Rattle.amqp_spool.specs.declared.floor.Floor.{Floor}
use Rattle.amqp_spool.specs.Floors.{IsFloor, floor_front, floor_text}
use Rattle.amqp_spool.specs.Sums.{sum_of}
use Rattle.amqp_spool.proofs.Placing.{part_at}

module _ (f : Floor) (is : IsFloor f) where
  abbrev b : ℕ → List ℕ
  b n = to_be_bytes w64 n

  abbrev sum : List ℕ
  sum = b (sum_of f.spool (floor_front f))

  abbrev to_number : List ℕ
  to_number = f.spool ++ b f.number

  abbrev to_dropped : List ℕ
  to_dropped = to_number ++ b f.dropped

  whole : floor_text f ≡ to_dropped ++ sum
  unfolding floor_text floor_front
  whole = refl

  eight : (n : ℕ) → length (b n) ≡ 8
  eight n = refl

  long_number : length to_number ≡ 24
  long_number = omega (arith, length-append f.spool (b f.number), is.spool, eight f.number)

  module _ (text : List ℕ) (same : text ≡ floor_text f) where
    at : (n k : ℕ) → take k (drop n text) ≡ take k (drop n (to_dropped ++ sum))
    at n k = ap (λ (t : List ℕ). take k (drop n t)) (same ∙ whole)

    number_is : (n m : ℕ) → m < 2 ^ 64 → take 8 (drop n text) ≡ b m → from_be_bytes w64 (take 8 (drop n text)) ≡ m
    number_is n m lt is_it = ap (λ (l : List ℕ). from_be_bytes w64 l) is_it ∙ from_be_bytes-to_be_bytes_8 m lt

    spool_at : take 16 (drop 0 text) ≡ f.spool
    spool_at = at 0 16 ∙ part_at [] f.spool (b f.number ∷ b f.dropped ∷ sum ∷ []) 0 16 refl is.spool

    number_at : from_be_bytes w64 (take 8 (drop 16 text)) ≡ f.number
    number_at = number_is 16 f.number is.number (at 16 8 ∙ part_at f.spool (b f.number) (b f.dropped ∷ sum ∷ []) 16 8 is.spool refl)

    dropped_at : from_be_bytes w64 (take 8 (drop 24 text)) ≡ f.dropped
    dropped_at = number_is 24 f.dropped is.dropped (at 24 8 ∙ part_at to_number (b f.dropped) (sum ∷ []) 24 8 long_number refl)

    abbrev floor_with : List ℕ → ℕ → ℕ → Floor
    floor_with spool number dropped = record { spool = spool; number = number; dropped = dropped }

    -- one that was read so is this one
    pub floor_is : (spool : List ℕ) (number dropped : ℕ) → spool ≡ take 16 (drop 0 text) → number ≡ from_be_bytes w64 (take 8 (drop 16 text)) → dropped ≡ from_be_bytes w64 (take 8 (drop 24 text)) → floor_with spool number dropped ≡ f
    floor_is spool number dropped p q r =
        ap (λ (x : List ℕ). floor_with x number dropped) (p ∙ spool_at) ∙ ap (λ (x : ℕ). floor_with f.spool x dropped) (q ∙ number_at) ∙ ap (λ (x : ℕ). floor_with f.spool f.number x) (r ∙ dropped_at)

  pub floor_long : length (floor_text f) ≡ 40
  floor_long = ap (λ (l : List ℕ). length l) whole ∙ omega (arith, length-append to_dropped sum, length-append to_number (b f.dropped), long_number, eight f.dropped, eight (sum_of f.spool (floor_front f)))
