-- How the name of a segment is read.
use Rattle.std.proofs.Common.{◌≡◌, ◌≢◌, ℕ, ◌-◌, arith, List, ◌++◌, length, length-append, take, get_or, Option, Some, None, Result, Ok, Err, IfSome, sym, ap, subst, ◌∙◌}
use Rattle.std.proofs.Math.Seq.{take-append_seam}
use Rattle.std.proofs.lemmas.Str.Parse.{digit_at, without_leading_plus_none}
use Rattle.std.specs.Result.{result_ok}
use Rattle.std.specs.Str.Parse.{AllDigits, ParsesUnsigned, digits_value}
use Rattle.std.specs.Str.Pattern.{FindsTextSuffix, StripsSuffix}
use Rattle.amqp_spool.specs.Digits.{last_digits}
use Rattle.amqp_spool.proofs.LastDigits.{all_digits, length-last_digits}
use Rattle.amqp_spool.proofs.NameDigits.{number_is}

pub stripped : (end name front : List ℕ) → StripsSuffix (FindsTextSuffix end) name front → name ≡ front ++ end
stripped end name front h = h.1.1 ∙ ap (λ (l : List ℕ). l ++ end) (sym h.2)

pub front_is : (end name front digits : List ℕ) → StripsSuffix (FindsTextSuffix end) name front → name ≡ digits ++ end → front ≡ digits
front_is end name front digits h e =
    let count : length name - h.0 ≡ length digits = omega (arith, ap (λ (l : List ℕ). length l) e, length-append digits end, h.1.0) in
    h.2 ∙ ap (λ (n : ℕ). take n name) count ∙ ap (λ (l : List ℕ). take (length digits) l) e ∙ take-append_seam digits end

-- digits with no plus before them
pub no_plus : (n : ℕ) → get_or (last_digits 20 n) 0 0 ≢ 43
no_plus n e =
    let range = digit_at (last_digits 20 n) 0 (all_digits 20 n) (omega (arith, length-last_digits 20 n)) in
    omega (arith, range, e)

pub read_is : {E : Type 0} (digits : List ℕ) (r : Result ℕ E) → length digits ≡ 20 → get_or digits 0 0 ≢ 43 → ParsesUnsigned 64 10 digits r → IfSome (result_ok r) (λ n. digits ≡ last_digits 20 n)
read_is digits (Ok n) long plain h =
    let same = without_leading_plus_none digits plain in
    let all = subst (λ (l : List ℕ). AllDigits 10 l) same h.0.0.1 in
    sym (number_is 20 digits long all) ∙ ap (λ (m : ℕ). last_digits 20 m) (sym (ap (λ (l : List ℕ). digits_value 10 l) same) ∙ sym h.1)
read_is digits (Err e) long plain h = tt

pub named : {E : Type 0} (name digits end : List ℕ) (o : Option ℕ) (r : Result ℕ E) → name ≡ digits ++ end → o ≡ result_ok r → IfSome (result_ok r) (λ n. digits ≡ last_digits 20 n) → IfSome o (λ n. name ≡ last_digits 20 n ++ end)
named name digits end (Some n) r whole e h =
    let is = subst (λ (o : Option ℕ). IfSome o (λ n. digits ≡ last_digits 20 n)) (sym e) h in
    whole ∙ ap (λ (l : List ℕ). l ++ end) is
named name digits end None r whole e h = tt
