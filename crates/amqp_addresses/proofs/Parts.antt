-- The parts of a text, cut at a byte.
use Rattle.std.proofs.Common.{arith, ◌≡◌, ℕ, ◌+◌, ◌-◌, ◌<◌, Bool, List, [], ◌∷◌, length, drop, take, sym, subst, length-drop}
use Rattle.std.specs.List.{slice_split, position_or_len}
use Rattle.std.proofs.lemmas.List.{take_all}
use Rattle.std.proofs.lemmas.List.Splits.{slice_split_none, slice_split_first}
use Rattle.std.proofs.lemmas.List.Sums.{fails_before_first}

-- without the byte it is the one part
pub one_part : (p : ℕ → Bool) (text : List ℕ) → position_or_len p text ≡ length text → slice_split p text ≡ text ∷ []
one_part p text none = slice_split_none p text (λ k d low. fails_before_first p text k d (rw none low))

-- with it, the part before the first one, and the parts of what is behind that
pub first_part : (p : ℕ → Bool) (text : List ℕ) (n : ℕ) → n ≡ position_or_len p text → n < length text →
    slice_split p text ≡ take n text ∷ slice_split p (take (length text - (n + 1)) (drop (n + 1) text))
first_part p text n is low =
    let all = take_all (length text - (n + 1)) (drop (n + 1) text) (omega (arith, length-drop (n + 1) text)) in
    let first = slice_split_first p text 0 (rw (← is) low) in
    rw all (subst (λ (m : ℕ). slice_split p text ≡ take m text ∷ slice_split p (drop (m + 1) text)) (sym is) first)
