-- The keys at a list of places.
use Rattle.std.proofs.Common.{arith, ◌≡◌, ℕ, ◌+◌, ◌-◌, ◌<◌, ◌≤◌, get_or, List, [], ◌∷◌, ◌++◌, length, take, drop, Option, Some, None, refl, sym, ap, ◌∙◌}
use Rattle.std.specs.Prelude.{option_map, filter, find, is_some, IsSome, Bool, true, false, cond, ◌||◌}
use Rattle.std.specs.List.{AllByRecursion, list_any}
use Rattle.std.proofs.lemmas.List.{append-nil, take-append-drop, take-append-le, take_all, drop_all, drop_more, length-append, length-drop, length-take-le}
use Rattle.std.proofs.lemmas.List.Folds.{list_any-append}
use Rattle.amqp_link.specs.Keeping.{keys_of}

-- the keys of places joined
pub keys_append : (xs ys : List (Option ℕ)) → keys_of (xs ++ ys) ≡ keys_of xs ++ keys_of ys
keys_append [] ys = refl
keys_append (None ∷ xs) ys = keys_append xs ys
keys_append (Some key ∷ xs) ys = ap (λ ks. key ∷ ks) (keys_append xs ys)

-- there are no more keys than places
pub keys_length : (xs : List (Option ℕ)) → length (keys_of xs) ≤ length xs
keys_length [] = omega arith
keys_length (None ∷ xs) = omega (arith, keys_length xs)
keys_length (Some key ∷ xs) = omega (arith, keys_length xs)

-- empty places hold no keys
pub keys_filter : (xs : List (Option ℕ)) → keys_of (filter (λ place. is_some place) xs) ≡ keys_of xs
keys_filter [] = refl
keys_filter (None ∷ xs) = keys_filter xs
keys_filter (Some key ∷ xs) = ap (λ ks. key ∷ ks) (keys_filter xs)

-- filled places stay where empty ones are closed up
pub filter_filled : (xs : List (Option ℕ)) → AllByRecursion IsSome xs → filter (λ place. is_some place) xs ≡ xs
filter_filled [] all = refl
filter_filled (None ∷ xs) all = absurd (grind (arith, all.0))
filter_filled (Some key ∷ xs) all = ap (λ ks. Some key ∷ ks) (filter_filled xs all.1)

-- filled places have a key each
pub length_filled : (xs : List (Option ℕ)) → AllByRecursion IsSome xs → length (keys_of xs) ≡ length xs
length_filled [] all = refl
length_filled (None ∷ xs) all = absurd (grind (arith, all.0))
length_filled (Some key ∷ xs) all = omega (arith, length_filled xs all.1)

-- one passes the test exactly where the first that does is found
pub any_found : {X : Type 0} (test : X → Bool) (xs : List X) → list_any test xs ≡ is_some (find test xs)
any_found {X} test [] = refl
any_found {X} test (x ∷ xs) = by_test (test x) (any_found test xs)
  where
    by_test : (b : Bool) → list_any test xs ≡ is_some (find test xs) → (b || list_any test xs) ≡ is_some (cond b (Some x) (find test xs))
    by_test true e = refl
    by_test false e = e

-- a place is found exactly where some place passes
pub found_any : {B X : Type 0} (show : B → X) (test : X → Bool) (r : Option B) (xs : List X) → option_map show r ≡ find test xs → is_some r ≡ list_any test xs
found_any show test None xs e = ap is_some e ∙ sym (any_found test xs)
found_any show test (Some x) xs e = ap is_some e ∙ sym (any_found test xs)

-- the keys of a part
pub keys_split : (n : ℕ) (xs : List (Option ℕ)) → keys_of (take n xs) ++ keys_of (drop n xs) ≡ keys_of xs
keys_split n xs = sym (keys_append (take n xs) (drop n xs)) ∙ ap keys_of (take-append-drop n xs)

-- all behind a place, as a slice up to the end shows it
pub to_the_end : (len n : ℕ) (xs : List (Option ℕ)) → len ≡ length xs → take (len - n) (drop n xs) ≡ drop n xs
to_the_end len n xs e = take_all (len - n) (drop n xs) (omega (arith, e, length-drop n xs))

-- the front that begins at no place
pub from_the_start : (n : ℕ) (xs : List (Option ℕ)) → take (n - 0) xs ≡ take n xs
from_the_start n xs = ap (λ (k : ℕ). take k xs) (omega arith)

-- the front, which was taken from the start, written anew
pub front_written : (len n : ℕ) (xs front ys : List (Option ℕ)) → len ≡ length xs → front ≡ take n xs → length ys ≡ length front → n ≤ length xs →
    take len (ys ++ drop (length ys) xs ++ drop (length (ys ++ drop (length ys) xs)) xs) ≡ ys ++ drop n xs
front_written len n xs front ys e is same low =
    let long : length ys ≡ n = same ∙ ap length is ∙ length-take-le n xs low in
    let whole : length (ys ++ drop (length ys) xs) ≡ length xs = omega (arith, low, length-append ys (drop (length ys) xs), length-drop (length ys) xs) in
    take-append-le len (ys ++ drop (length ys) xs) (drop (length (ys ++ drop (length ys) xs)) xs) (omega arith)
    ∙ take_all len (ys ++ drop (length ys) xs) (omega arith)
    ∙ ap (λ (k : ℕ). ys ++ drop k xs) long

-- the back written as it was
pub back_written : (len n : ℕ) (xs ys : List (Option ℕ)) → len ≡ length xs → ys ≡ drop n xs →
    take len (take n xs ++ (ys ++ drop (length ys) (drop n xs)) ++ drop (length (take n xs ++ (ys ++ drop (length ys) (drop n xs)))) xs) ≡ xs
back_written len n xs ys e same =
    let none : drop (length ys) (drop n xs) ≡ [] = drop_all (length ys) (drop n xs) (omega (arith, ap length same)) in
    let whole : take n xs ++ (ys ++ drop (length ys) (drop n xs)) ≡ xs =
    ap (λ (zs : List (Option ℕ)). take n xs ++ (ys ++ zs)) none ∙ ap (λ (zs : List (Option ℕ)). take n xs ++ zs) (append-nil ys ∙ same) ∙ take-append-drop n xs in
    ap (λ (zs : List (Option ℕ)). take len (zs ++ drop (length zs) xs)) whole
    ∙ take-append-le len xs (drop (length xs) xs) (omega arith) ∙ take_all len xs (omega arith)

-- the place that is handed up next
pub next_of : (n : ℕ) (xs ys : List (Option ℕ)) (place : Option ℕ) (key : ℕ) → ys ≡ xs → n < length ys → place ≡ get_or ys n None → place ≡ Some key → drop n xs ≡ Some key ∷ drop (n + 1) xs
next_of n xs ys place key same lt e f =
    let there : n < length xs = omega (arith, lt, ap length same) in
    let this : get_or xs n None ≡ Some key = ap (λ (zs : List (Option ℕ)). get_or zs n None) (sym same) ∙ sym e ∙ f in
    drop_more xs n None there ∙ ap (λ (p : Option ℕ). p ∷ drop (n + 1) xs) this

-- one of the first passes the test
pub any_before : {X : Type 0} (test : X → Bool) (xs ys : List X) (b : Bool) → b ≡ list_any test xs → b ≡ true → b ≡ list_any test (xs ++ ys)
any_before test xs ys b e one = one ∙ sym (list_any-append test xs ys ∙ ap (λ (v : Bool). v || list_any test ys) (sym e ∙ one))

-- none of them does
pub any_behind : {X : Type 0} (test : X → Bool) (xs ys : List X) (b other : Bool) → b ≡ list_any test xs → b ≡ false → other ≡ list_any test ys → other ≡ list_any test (xs ++ ys)
any_behind test xs ys b other e none f = f ∙ sym (list_any-append test xs ys ∙ ap (λ (v : Bool). v || list_any test ys) (sym e ∙ none))
