-- The arithmetic of digits, and the texts that are pairs of them.
use Rattle.std.proofs.Common.{◌≡◌, ℕ, zero, suc, ◌+◌, ◌*◌, ◌-◌, ◌/◌, ◌%◌, ◌<◌, ◌≤◌, ◌==◌, true, [], ◌∷◌, take, drop, bit_and, slice_index, slice_index_or, slice_set, Option, Some, None, unwrap_or, Result, Ok, Err, refl, sym, ap, ◌∙◌, subst, arith}
use Rattle.std.specs.Prelude.{nat_lt, bit_or, is_some, length, List, IsOk}
use Rattle.std.specs.Result.{result_unwrap_or}
use Rattle.std.specs.List.{list_all}
use Rattle.std.specs.Simd.{first_chunks}
use Rattle.std.proofs.lemmas.Bool.{agree_below_at, eqb-true, ltb-true}
use Rattle.std.proofs.lemmas.List.{drop-drop}
use Rattle.std.proofs.lemmas.List.Sums.{AllPass-from_list_all, list_all-from_AllPass}
use Rattle.hex.specs.Hex.{hex_digit_value, is_hex_digit, lower_digits, pair_value, decode_of, decode_pairs}
use Rattle.hex.specs.declared.error.FromHexError.{FromHexError}
use Rattle.hex.proofs.HexLemmas.{decode_of-even, decode_of-ok, decode_of-digits}
use Rattle.hex.proofs.Pairs.{prepend, drop-pair, decode_step, decode_done}

-- the number that the arithmetic makes of a byte
abbrev pub value_in : ℕ → ℕ
value_in d = bit_and ((bit_and d 15 + (d / 64) * 9 % 256) % 256) 15

pub value_in-digit : (d v : ℕ) → d < 256 → hex_digit_value d ≡ Some v → value_in d ≡ v
value_in-digit d v small is =
    let at : (unwrap_or (hex_digit_value d) (value_in d) == value_in d) ≡ true
    = agree_below_at (λ d. unwrap_or (hex_digit_value d) (value_in d) == value_in d) (λ _. true) 256 d refl small in
    sym (eqb-true (unwrap_or (hex_digit_value d) (value_in d)) (value_in d) at) ∙ ap (λ (o : Option ℕ). unwrap_or o (value_in d)) is

-- the digit of a number
abbrev pub digit_for : ℕ → ℕ → ℕ
digit_for n behind = ((n + 48) % 256 + behind) % 256

pub digit_for-small : (n : ℕ) → n < 10 → digit_for n 0 ≡ slice_index lower_digits n
digit_for-small n small =
    eqb-true (digit_for n 0) (slice_index lower_digits n)
    (agree_below_at (λ n. digit_for n 0 == slice_index lower_digits n) (λ _. true) 10 n refl small)

pub digit_for-letter : (n : ℕ) → 9 < n → n < 16 → digit_for n 39 ≡ slice_index lower_digits n
digit_for-letter n large small =
    let k : ℕ = n - 10 in
    let is : k + 10 ≡ n = omega (arith, large) in
    subst (λ (m : ℕ). digit_for m 39 ≡ slice_index lower_digits m) is
    (eqb-true (digit_for (k + 10) 39) (slice_index lower_digits (k + 10))
    (agree_below_at (λ k. digit_for (k + 10) 39 == slice_index lower_digits (k + 10)) (λ _. true) 6 k refl (omega (arith, small))))

-- a number of four bits above another
pub halves_joined : (high low : ℕ) → high < 16 → low < 16 → bit_or (high * 16 % 256) low ≡ high * 16 + low
halves_joined high low large small =
    let k : ℕ = high * 16 + low in
    let h : k / 16 ≡ high = omega (arith, small) in
    let l : k % 16 ≡ low = omega (arith, small) in
    let at = eqb-true (bit_or (k / 16 * 16 % 256) (k % 16)) k
    (agree_below_at (λ k. bit_or (k / 16 * 16 % 256) (k % 16) == k) (λ _. true) 256 k refl (omega (arith, large, small))) in
    rw (h, l) at at

value_in-small : (d : ℕ) → d < 256 → value_in d < 16
value_in-small d small = ltb-true (value_in d) 16 (agree_below_at (λ d. nat_lt (value_in d) 16) (λ _. true) 256 d refl small)

some_of : (o : Option ℕ) → is_some o ≡ true → (v : ℕ) × (o ≡ Some v)
some_of (Some v) _ = (v, refl)
some_of None none = cc none

pair_read : (a b i high low : ℕ) → hex_digit_value a ≡ Some high → hex_digit_value b ≡ Some low → pair_value a b i ≡ Ok (high * 16 + low)
pair_read a b i high low is_high is_low = rw (is_high, is_low) refl

-- two digits and the byte that the arithmetic makes of them
pub pair_value-digits : (a b i x y : ℕ) → a < 256 → b < 256 → is_hex_digit a ≡ true → is_hex_digit b ≡ true
    → ((v : ℕ) → hex_digit_value a ≡ Some v → x ≡ v) → ((v : ℕ) → hex_digit_value b ≡ Some v → y ≡ v)
    → pair_value a b i ≡ Ok (bit_or (x * 16 % 256) y)
pair_value-digits a b i x y small_a small_b is_a is_b high low =
    let p = some_of (hex_digit_value a) is_a in
    let q = some_of (hex_digit_value b) is_b in
    let x_is : x ≡ p.0 = high p.0 p.1 in
    let y_is : y ≡ q.0 = low q.0 q.1 in
    let p_small : p.0 < 16 = subst (λ (n : ℕ). n < 16) (value_in-digit a p.0 small_a p.1) (value_in-small a small_a) in
    let q_small : q.0 < 16 = subst (λ (n : ℕ). n < 16) (value_in-digit b q.0 small_b q.1) (value_in-small b small_b) in
    pair_read a b i p.0 q.0 p.1 q.1
    ∙ ap (λ (n : ℕ). Ok n) (sym (ap (λ (n : ℕ). bit_or (n * 16 % 256) y) x_is ∙ ap (λ (n : ℕ). bit_or (p.0 * 16 % 256) n) y_is ∙ halves_joined p.0 q.0 p_small q_small))

-- one pair more is read
pub pair_step : (text out bytes pair : List ℕ) (i x y : ℕ) → decode_of text ≡ Ok bytes → ((k : ℕ) → slice_index text k < 256)
    → 2 * i + 1 < length text → i < length out → pair ≡ take 2 (drop (2 * i) text)
    → ((v : ℕ) → hex_digit_value (slice_index pair 0) ≡ Some v → x ≡ v) → ((v : ℕ) → hex_digit_value (slice_index pair 1) ≡ Some v → y ≡ v)
    → decode_pairs 0 text ≡ prepend (take i out) (decode_pairs (2 * i) (drop (2 * i) text))
    → decode_pairs 0 text ≡ prepend (take (i + 1) (slice_set out i (bit_or (x * 16 % 256) y))) (decode_pairs (2 * (i + 1)) (drop (2 * (i + 1)) text))
pair_step text out bytes pair i x y is small fits room is_pair high low before =
    let d = decode_of-ok text bytes is in
    let a : ℕ = slice_index text (2 * i) in
    let b : ℕ = slice_index text (2 * i + 1) in
    let both : pair ≡ a ∷ b ∷ [] = is_pair ∙ ap (take 2) (drop-pair text i fits) in
    decode_step text out i _ fits room
    (pair_value-digits a b (2 * i) x y (small (2 * i)) (small (2 * i + 1)) (d.1 (2 * i) 0 (omega (arith, fits))) (d.1 (2 * i + 1) 0 fits)
    (λ v e. high v (ap (λ (p : List ℕ). hex_digit_value (slice_index p 0)) both ∙ e))
    (λ v e. low v (ap (λ (p : List ℕ). hex_digit_value (slice_index p 1)) both ∙ e)))
    before

-- all pairs are read
pub pairs_read : (text out bytes : List ℕ) (i : ℕ) → decode_of text ≡ Ok bytes → length out ≡ length text / 2 → length out ≤ i
    → decode_pairs 0 text ≡ prepend (take i out) (decode_pairs (2 * i) (drop (2 * i) text)) → out ≡ bytes
pairs_read text out bytes i is half all before =
    let d = decode_of-ok text bytes is in
    let done = decode_done text out i all (omega (arith, half, all, d.0)) before in
    ap (λ (r : Result (List ℕ) FromHexError). result_unwrap_or r bytes) (sym done ∙ sym (decode_of-even text d.0) ∙ is)

-- so many pairs are left
pub length-first_chunks : (n k : ℕ) (xs : List ℕ) → length (first_chunks n k xs) ≡ k
length-first_chunks n zero xs = refl
length-first_chunks n (suc k) xs = ap (λ (j : ℕ). suc j) (length-first_chunks n k (drop n xs))

-- the first of the pairs that are left, and those behind it
pub pairs_left : (text pair : List ℕ) (rest : List (List ℕ)) (i n : ℕ) → i < n → first_chunks 2 (n - i) (drop (2 * i) text) ≡ pair ∷ rest
    → (pair ≡ take 2 (drop (2 * i) text)) × (rest ≡ first_chunks 2 (n - (i + 1)) (drop (2 * (i + 1)) text))
pairs_left text pair rest i n below left =
    let k : ℕ = n - (i + 1) in
    let more : n - i ≡ suc k = omega (arith, below) in
    let two : 2 * i + 2 ≡ 2 * (i + 1) = omega arith in
    let behind : drop 2 (drop (2 * i) text) ≡ drop (2 * (i + 1)) text = drop-drop 2 (2 * i) text ∙ ap (λ (j : ℕ). drop j text) two in
    let all = sym (ap (λ (j : ℕ). first_chunks 2 j (drop (2 * i) text)) more) ∙ left in (
      sym (ap (λ (xs : List (List ℕ)). slice_index_or xs 0 []) all),
      sym (ap (λ (xs : List (List ℕ)). drop 1 xs) all) ∙ ap (λ (xs : List ℕ). first_chunks 2 k xs) behind,
    )

-- some pairs of digits are what decodes
pub decodes : (text : List ℕ) → length text % 2 ≡ 0 → list_all is_hex_digit text ≡ true → IsOk (decode_of text)
decodes text even all =
    let r = decode_of-digits text even (AllPass-from_list_all is_hex_digit text all) in
    rw r.1 refl

ok_value : (r : Result (List ℕ) FromHexError) → IsOk r → (bytes : List ℕ) × (r ≡ Ok bytes)
ok_value (Ok bytes) _ = (bytes, refl)
ok_value (Err e) err = cc err

pub decoded : (text : List ℕ) → IsOk (decode_of text) → (length text % 2 ≡ 0) × (list_all is_hex_digit text ≡ true)
decoded text ok =
    let r = ok_value (decode_of text) ok in
    let d = decode_of-ok text r.0 r.1 in
    (d.0, list_all-from_AllPass is_hex_digit text d.1)
