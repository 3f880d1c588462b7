-- The number that digits write.
use Rattle.std.proofs.Common.{arith, ◌≡◌, ℕ, ◌+◌, ◌-◌, ◌*◌, ◌<◌, ◌≤◌, Bool, true, false, List, length, take, get_or, refl, sym}
use Rattle.std.specs.Prelude.{Result, Ok, Err, ◌&&◌, nat_lt, if◌then◌else◌}
use Rattle.std.specs.Char.{digit_value, is_ascii_digit}
use Rattle.std.specs.List.{list_all}
use Rattle.std.specs.Str.Parse.{digits_value}
use Rattle.std.proofs.lemmas.Bool.{ltb-true}
use Rattle.std.proofs.lemmas.List.Folds.{list_all_more}
use Rattle.std.proofs.lemmas.Int.Digits.{digits_value_more}
use Rattle.std.proofs.lemmas.Str.{digit_value_digit}
use Rattle.std.proofs.lemmas.Str.Parse.{digit_from_value, digits_value-take-le}
use Rattle.amqp_addresses.specs.declared.faults.LineFault.{LineFault}
use Rattle.amqp_addresses.specs.declared.faults.LineFault.TheVariants.{BadCredit}
use Rattle.amqp_addresses.specs.Lines.{credit_of}

-- one digit more
pub digit_more : (ds : List ℕ) (i : ℕ) → i < length ds → digit_value (get_or ds i 0) < 10 →
    digits_value 10 (take (i + 1) ds) ≡ 10 * digits_value 10 (take i ds) + (get_or ds i 0 - 48)
digit_more ds i low digit =
    let more = digits_value_more 10 ds i low in
    let value = digit_value_digit (get_or ds i 0) (digit_from_value (get_or ds i 0) digit) in
    omega (arith, more, value)

bad : (a b c : Bool) (r : Result ℕ LineFault) → c ≡ false → (if a && (b && c) then r else Err BadCredit) ≡ Err BadCredit
bad true true c r h = rw h refl
bad true false c r h = refl
bad false b c r h = refl

not_below : (m n : ℕ) → n ≤ m → nat_lt m n ≡ false
not_below m n h = by (nat_lt m n) refl
  where
    by : (t : Bool) → nat_lt m n ≡ t → nat_lt m n ≡ false
    by true is = absurd (omega (arith, h, ltb-true m n is))
    by false is = is

-- some of the digits write too much
pub too_much : (ds : List ℕ) (i : ℕ) → 4294967296 ≤ digits_value 10 (take i ds) → Err BadCredit ≡ credit_of ds
too_much ds i much =
    let more = digits_value-take-le 10 ds i (omega arith) in
    sym (bad (list_all is_ascii_digit ds) (nat_lt 0 (digits_value 10 ds)) (nat_lt (digits_value 10 ds) 4294967296) (Ok (digits_value 10 ds))
    (not_below (digits_value 10 ds) 4294967296 (omega (arith, much, more))))

both : (a b : Bool) → a ≡ true → b ≡ true → (a && b) ≡ true
both true true x y = refl
both true false x y = y
both false b x y = x

-- one more is a digit
pub all_more : (ds : List ℕ) (i : ℕ) → i < length ds → list_all is_ascii_digit (take i ds) ≡ true → is_ascii_digit (get_or ds i 0) ≡ true →
    list_all is_ascii_digit (take (i + 1) ds) ≡ true
all_more ds i low all digit = rw (list_all_more is_ascii_digit ds i 0 low) (both (list_all is_ascii_digit (take i ds)) (is_ascii_digit (get_or ds i 0)) all digit)
