-- The digits in the name of a segment.
use Rattle.std.proofs.Common.{◌≡◌, ℕ, zero, suc, ◌+◌, ◌-◌, ◌*◌, ◌/◌, ◌%◌, ◌<◌, ◌^◌, arith, false, List, [], ◌∷◌, ◌++◌, length, length-append, append-nil, take, get_or, replicate, refl, sym, ap, ◌∙◌}
use Rattle.std.proofs.lemmas.Bool.Decides.{nat_tests}
use Rattle.std.proofs.lemmas.Fmt.{decimal_is_IsNumeral, length-decimal-le}
use Rattle.std.proofs.lemmas.Int.Digits.{digits_value_push}
use Rattle.std.proofs.lemmas.List.{length-replicate, length-take-le, nil_from_length, take_all}
use Rattle.std.proofs.lemmas.Str.Parse.{digit_at}
use Rattle.std.proofs.Math.Seq.{take-suc}
use Rattle.std.specs.Char.{digit_value}
use Rattle.std.specs.Fmt.{char_count, decimal, format_spec, padded_integral}
use Rattle.std.specs.Int.{IsInRange}
use Rattle.std.specs.Str.Parse.{AllDigits, digits_value}
use Rattle.amqp_spool.specs.Digits.{last_digits}

all_take : (k : ℕ) (ds : List ℕ) → AllDigits 10 ds → AllDigits 10 (take k ds)
all_take zero ds all = tt
all_take (suc k) [] all = tt
all_take (suc k) (c ∷ cs) all = (all.0, all_take k cs all.1)

value_of : (c : ℕ) → IsInRange 48 57 c → digit_value c ≡ c - 48
value_of c is = grind (arith, nat_tests)

-- Digits are the last digits of their value, as many as they are.
pub number_is : (places : ℕ) (ds : List ℕ) → length ds ≡ places → AllDigits 10 ds → last_digits places (digits_value 10 ds) ≡ ds
unfolding last_digits
number_is zero ds long all = sym (nil_from_length ds long)
number_is (suc k) ds long all =
    let c = get_or ds k 0 in
    let front = take k ds in
    let whole : ds ≡ front ++ c ∷ [] = sym (take_all (suc k) ds (omega (arith, long))) ∙ take-suc ds k 0 (omega (arith, long)) in
    let range = digit_at ds k all (omega (arith, long)) in
    let value : digits_value 10 ds ≡ digits_value 10 front * 10 + (c - 48) =
    ap (λ (l : List ℕ). digits_value 10 l) whole ∙ digits_value_push 10 front c ∙ ap (λ (n : ℕ). digits_value 10 front * 10 + n) (value_of c range) in
    let tens : digits_value 10 ds / 10 ≡ digits_value 10 front = omega (arith, value, range) in
    let ones : 48 + digits_value 10 ds % 10 ≡ c = omega (arith, value, range) in
    let rest = number_is k front (length-take-le k ds (omega (arith, long))) (all_take k ds all) in
    ap (λ (n : ℕ). last_digits k n ++ (48 + digits_value 10 ds % 10) ∷ []) tens ∙ ap (λ (l : List ℕ). l ++ (48 + digits_value 10 ds % 10) ∷ []) rest
    ∙ ap (λ (n : ℕ). front ++ n ∷ []) ones ∙ sym whole

-- Zeros before digits are no part of their value.
zeros_value : (m : ℕ) (ds : List ℕ) → digits_value 10 (replicate m 48 ++ ds) ≡ digits_value 10 ds
zeros_value zero ds = refl
zeros_value (suc m) ds = zeros_value m ds

zeros_all : (m : ℕ) (ds : List ℕ) → AllDigits 10 ds → AllDigits 10 (replicate m 48 ++ ds)
zeros_all zero ds all = all
zeros_all (suc m) ds all = (omega arith, zeros_all m ds all)

-- what `{:020}` writes of digits
pad_is : (ds : List ℕ) → padded_integral (format_spec 32 0 4 20 (2 ^ 64 - 1)) false [] ds ≡ replicate (20 - length ds) 48 ++ ds
unfolding padded_integral char_count
pad_is ds =
    let none : 20 - length ds - 0 - 0 ≡ 20 - length ds = omega arith in
    ap (λ (m : ℕ). replicate m 48 ++ (ds ++ [])) none ∙ ap (λ (l : List ℕ). replicate (20 - length ds) 48 ++ l) (append-nil ds)

pub padded_is : (n : ℕ) → n < 2 ^ 64 → padded_integral (format_spec 32 0 4 20 (2 ^ 64 - 1)) false [] (decimal n) ≡ last_digits 20 n
padded_is n lt =
    let is = decimal_is_IsNumeral n lt in
    let short = length-decimal-le 20 n (omega arith) (omega arith) lt in
    let m = 20 - length (decimal n) in
    let ds = replicate m 48 ++ decimal n in
    let long : length ds ≡ 20 = omega (arith, length-append (replicate m 48) (decimal n), length-replicate {A = ℕ} m 48, short) in
    let value : digits_value 10 ds ≡ n = zeros_value m (decimal n) ∙ is.1 in
    pad_is (decimal n) ∙ sym (number_is 20 ds long (zeros_all m (decimal n) is.0.1)) ∙ ap (λ (k : ℕ). last_digits 20 k) value
