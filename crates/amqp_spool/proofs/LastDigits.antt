-- The last digits of a number, and how they are read.
use Rattle.std.proofs.Common.{◌≡◌, ℕ, zero, suc, ◌+◌, ◌/◌, ◌%◌, ◌<◌, ◌^◌, arith, List, [], ◌∷◌, length, length-append, Result, Ok, refl, sym, ap, subst, ◌∙◌}
use Rattle.std.proofs.Math.Nat.{pow-suc}
use Rattle.std.proofs.lemmas.Bool.Decides.{nat_tests}
use Rattle.std.proofs.lemmas.Int.Digits.{digits_push, digits_value_push}
use Rattle.std.proofs.lemmas.Str.Parse.{numerals_by_value, tells_digits, parse_gives}
use Rattle.std.specs.Char.{digit_value}
use Rattle.std.specs.Str.Parse.{AllDigits, digits_value, ParsesUnsigned}
use Rattle.amqp_spool.specs.Digits.{last_digits}

digit_is : (d : ℕ) → d < 10 → digit_value (48 + d) ≡ d
digit_is d lt = grind (arith, nat_tests)

pub length-last_digits : (places n : ℕ) → length (last_digits places n) ≡ places
unfolding last_digits
length-last_digits zero n = refl
length-last_digits (suc places) n = omega (arith, length-last_digits places (n / 10), length-append (last_digits places (n / 10)) ((48 + n % 10) ∷ []))

pub all_digits : (places n : ℕ) → AllDigits 10 (last_digits places n)
unfolding last_digits
all_digits zero n = tt
all_digits (suc places) n =
    let digit : digit_value (48 + n % 10) < 10 = rw (digit_is (n % 10) (omega arith)) (omega arith) in
    digits_push 10 (last_digits places (n / 10)) (48 + n % 10) (all_digits places (n / 10)) digit

pub value_is : (places n : ℕ) → n < 10 ^ places → digits_value 10 (last_digits places n) ≡ n
unfolding last_digits
value_is zero n lt = omega arith
value_is (suc places) n lt =
    let digit = digit_is (n % 10) (omega arith) in
    let tens = pow-suc 10 places in
    let front = value_is places (n / 10) (omega (arith, tens)) in
    omega (arith, digits_value_push 10 (last_digits places (n / 10)) (48 + n % 10), digit, front)

pub parsed : {E : Type 0} (digits : List ℕ) (n : ℕ) (r : Result ℕ E) → n < 2 ^ 64 → digits ≡ last_digits 20 n → ParsesUnsigned 64 10 digits r → r ≡ Ok n
parsed digits n r lt e h =
    let value : digits_value 10 digits ≡ n = ap (λ (l : List ℕ). digits_value 10 l) e ∙ value_is 20 n (omega arith) in
    let all = subst (λ (l : List ℕ). AllDigits 10 l) (sym e) (all_digits 20 n) in
    let long = ap (λ (l : List ℕ). length l) e ∙ length-last_digits 20 n in
    parse_gives (numerals_by_value (AllDigits 10) tells_digits) 64 digits r h all (omega arith) (omega arith) ∙ ap (λ (m : ℕ). Ok m) value
