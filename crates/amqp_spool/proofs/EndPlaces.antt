-- What stands where in a published end.
use Rattle.std.proofs.Common.{◌≡◌, ℕ, ◌<◌, ◌^◌, arith, List, [], ◌∷◌, ◌++◌, length, length-append, take, drop, refl, ap, ◌∙◌}
use Rattle.std.proofs.lemmas.Nat.{from_be_bytes-to_be_bytes_8}
use Rattle.std.specs.Int.{w64, to_be_bytes, from_be_bytes}
use Rattle.amqp_spool.specs.declared.end.End.{End}
use Rattle.amqp_spool.specs.Ends.{IsEnd, end_front, end_text}
use Rattle.amqp_spool.specs.Sums.{sum_of}
use Rattle.amqp_spool.proofs.Placing.{part_at}

module _ (e : End) (is : IsEnd e) where
  abbrev b : ℕ → List ℕ
  b n = to_be_bytes w64 n

  abbrev sum : List ℕ
  sum = b (sum_of e.spool (end_front e))

  abbrev to_first : List ℕ
  to_first = e.spool ++ b e.first

  abbrev to_mark : List ℕ
  to_mark = to_first ++ b e.mark

  abbrev to_place : List ℕ
  to_place = to_mark ++ b e.place

  abbrev to_next : List ℕ
  to_next = to_place ++ b e.next

  whole : end_text e ≡ to_next ++ sum
  unfolding end_text end_front
  whole = refl

  eight : (n : ℕ) → length (b n) ≡ 8
  eight n = refl

  long_first : length to_first ≡ 24
  long_first = omega (arith, length-append e.spool (b e.first), is.spool, eight e.first)

  long_mark : length to_mark ≡ 32
  long_mark = omega (arith, length-append to_first (b e.mark), long_first, eight e.mark)

  long_place : length to_place ≡ 40
  long_place = omega (arith, length-append to_mark (b e.place), long_mark, eight e.place)

  module _ (text : List ℕ) (same : text ≡ end_text e) where
    at : (n k : ℕ) → take k (drop n text) ≡ take k (drop n (to_next ++ sum))
    at n k = ap (λ (t : List ℕ). take k (drop n t)) (same ∙ whole)

    number : (n m : ℕ) → m < 2 ^ 64 → take 8 (drop n text) ≡ b m → from_be_bytes w64 (take 8 (drop n text)) ≡ m
    number n m lt is_it = ap (λ (l : List ℕ). from_be_bytes w64 l) is_it ∙ from_be_bytes-to_be_bytes_8 m lt

    spool_at : take 16 (drop 0 text) ≡ e.spool
    spool_at = at 0 16 ∙ part_at [] e.spool (b e.first ∷ b e.mark ∷ b e.place ∷ b e.next ∷ sum ∷ []) 0 16 refl is.spool

    first_at : from_be_bytes w64 (take 8 (drop 16 text)) ≡ e.first
    first_at = number 16 e.first is.first (at 16 8 ∙ part_at e.spool (b e.first) (b e.mark ∷ b e.place ∷ b e.next ∷ sum ∷ []) 16 8 is.spool refl)

    mark_at : from_be_bytes w64 (take 8 (drop 24 text)) ≡ e.mark
    mark_at = number 24 e.mark is.mark (at 24 8 ∙ part_at to_first (b e.mark) (b e.place ∷ b e.next ∷ sum ∷ []) 24 8 long_first refl)

    place_at : from_be_bytes w64 (take 8 (drop 32 text)) ≡ e.place
    place_at = number 32 e.place is.place (at 32 8 ∙ part_at to_mark (b e.place) (b e.next ∷ sum ∷ []) 32 8 long_mark refl)

    next_at : from_be_bytes w64 (take 8 (drop 40 text)) ≡ e.next
    next_at = number 40 e.next is.next (at 40 8 ∙ part_at to_place (b e.next) (sum ∷ []) 40 8 long_place refl)

    abbrev end_with : List ℕ → ℕ → ℕ → ℕ → ℕ → End
    end_with spool first mark place next = record { spool = spool; first = first; mark = mark; place = place; next = next }

    -- one that was read so is this one
    pub end_is : (spool : List ℕ) (first mark place next : ℕ) → spool ≡ take 16 (drop 0 text) → first ≡ from_be_bytes w64 (take 8 (drop 16 text)) → mark ≡ from_be_bytes w64 (take 8 (drop 24 text))
        → place ≡ from_be_bytes w64 (take 8 (drop 32 text)) → next ≡ from_be_bytes w64 (take 8 (drop 40 text)) → end_with spool first mark place next ≡ e
    end_is spool first mark place next p q r s t =
        ap (λ (x : List ℕ). end_with x first mark place next) (p ∙ spool_at) ∙ ap (λ (x : ℕ). end_with e.spool x mark place next) (q ∙ first_at) ∙ ap (λ (x : ℕ). end_with e.spool e.first x place next) (r ∙ mark_at)
        ∙ ap (λ (x : ℕ). end_with e.spool e.first e.mark x next) (s ∙ place_at) ∙ ap (λ (x : ℕ). end_with e.spool e.first e.mark e.place x) (t ∙ next_at)

  pub end_long : length (end_text e) ≡ 56
  end_long = ap (λ (l : List ℕ). length l) whole ∙ omega (arith, length-append to_next sum, length-append to_place (b e.next), long_place, eight e.next, eight (sum_of e.spool (end_front e)))
