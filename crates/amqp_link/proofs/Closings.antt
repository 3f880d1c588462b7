-- Empty places are closed up.
use Rattle.std.proofs.Common.{arith, ◌≡◌, ℕ, ◌-◌, ◌≤◌, take, List, [], ◌∷◌, ◌++◌, length, Option, Some, None, refl, sym, ap, ◌∙◌}
use Rattle.std.specs.Prelude.{filter, is_some, IsSome, drop}
use Rattle.std.specs.List.{AllByRecursion}
use Rattle.std.proofs.Math.Seq.{take-append_seam, drop-append_seam}
use Rattle.std.proofs.lemmas.List.{nil_from_length, length-append, length-drop, take-append-drop}
use Rattle.std.proofs.lemmas.List.Elements.{filter-append}
use Rattle.amqp_link.specs.Keeping.{keys_of, SameKeys}
use Rattle.amqp_link.proofs.PlaceKeys.{keys_filter, keys_split, filter_filled, length_filled}

-- as many are left as there are keys
pub filter_length : (xs : List (Option ℕ)) → length (filter (λ place. is_some place) xs) ≡ length (keys_of xs)
filter_length [] = refl
filter_length (None ∷ xs) = filter_length xs
filter_length (Some key ∷ xs) = omega (arith, filter_length xs)

-- what is ready is left
pub ready_left : (order order' : List (Option ℕ)) (h : ℕ) → AllByRecursion IsSome (drop h order) → order' ≡ filter (λ place. is_some place) order →
    order' ≡ filter (λ place. is_some place) (take h order) ++ drop h order
ready_left order order' h filled e =
    e ∙ ap (filter (λ place. is_some place)) (sym (take-append-drop h order)) ∙ filter-append (λ place. is_some place) (take h order) (drop h order)
    ∙ ap (λ (ps : List (Option ℕ)). filter (λ place. is_some place) (take h order) ++ ps) (filter_filled (drop h order) filled)

pub ready_fits : (order order' : List (Option ℕ)) (h : ℕ) → AllByRecursion IsSome (drop h order) → order' ≡ filter (λ place. is_some place) order → length order - h ≤ length order'
ready_fits order order' h filled e =
    omega (arith, ap length (ready_left order order' h filled e), length-append (filter (λ place. is_some place) (take h order)) (drop h order), length-drop h order)

-- the empty places go
pub closed : (order order' : List (Option ℕ)) (h h' : ℕ) → h ≤ length order → AllByRecursion IsSome (drop h order) → order' ≡ filter (λ place. is_some place) order →
    length order' ≤ length order → h' ≡ length order' - (length order - h) → SameKeys order order' h h'
closed order order' h h' split filled e short n =
    let front = filter (λ (place : Option ℕ). is_some place) (take h order) in
    let parts = ready_left order order' h filled e in
    let long = ap length parts ∙ length-append front (drop h order) in
    let n' : h' ≡ length front = omega (arith, n, long, length-drop h order, split) in
    let f : take h' order' ≡ front = ap (λ (k : ℕ). take k order') n' ∙ ap (take (length front)) parts ∙ take-append_seam front (drop h order) in
    let b : drop h' order' ≡ drop h order = ap (λ (k : ℕ). drop k order') n' ∙ ap (drop (length front)) parts ∙ drop-append_seam front (drop h order) in
    record { front = ap keys_of f ∙ keys_filter (take h order); back = b; split = omega (arith, n', long); short = short }

-- where there is no key all places go
pub cleared : (order order' : List (Option ℕ)) (h h' : ℕ) → AllByRecursion IsSome (drop h order) → length (keys_of order) ≤ 0 → order' ≡ [] → h' ≡ 0 → SameKeys order order' h h'
cleared order order' h h' filled none e n =
    let long = ap length (keys_split h order) ∙ refl in
    let both = length-append (keys_of (take h order)) (keys_of (drop h order)) in
    let fore : keys_of (take h order) ≡ [] = nil_from_length (keys_of (take h order)) (omega (arith, none, long, both)) in
    let aft : drop h order ≡ [] = nil_from_length (drop h order) (omega (arith, none, long, both, length_filled (drop h order) filled)) in
    record {
      front = ap (λ (k : ℕ). keys_of (take k order')) n ∙ ap (λ (ps : List (Option ℕ)). keys_of (take 0 ps)) e ∙ sym fore;
      back = ap (λ (k : ℕ). drop k order') n ∙ ap (λ (ps : List (Option ℕ)). drop 0 ps) e ∙ sym aft;
      split = omega (arith, n);
      short = omega (arith, ap length e);
    }
