-- The digits in the text of a position.
use Rattle.std.proofs.Common.{◌≡◌, ℕ, zero, suc, ◌+◌, ◌*◌, ◌/◌, ◌%◌, ◌<◌, arith, List, [], ◌∷◌, ◌++◌, length, drop, set, Ok, refl, sym, ap, subst, ◌∙◌, append_assoc}
use Rattle.std.proofs.lemmas.Grind.{drop-set_at}
use Rattle.std.proofs.lemmas.Str.{IsUtf8-from_ascii}
use Rattle.std.proofs.lemmas.Str.Ascii.{IsAscii-nil, IsAscii-push}
use Rattle.std.specs.Str.{IsAscii, IsUtf8}
use Rattle.hex.specs.Hex.{IsBytes, encode_lower, lower_digits, decode_sized}
use Rattle.hex.proofs.HexLemmas.{length-encode_with, decode_of-encode_lower, decode_sized-twice}
use Rattle.amqp_spool.specs.Digits.{last_digits}

-- Decimal digits. -----------------------------------------------------------------------------------------------------

pub one_more : (digits : List ℕ) (place k front : ℕ) → place ≡ suc k → k < length digits → last_digits place front ++ drop place digits ≡ last_digits k (front / 10) ++ drop k (set digits k (48 + front % 10))
unfolding last_digits
one_more digits place k front e lt =
    let c = 48 + front % 10 in
    let next : suc k ≡ k + 1 = omega arith in
    ap (λ (p : ℕ). last_digits p front ++ drop p digits) e ∙ append_assoc (last_digits k (front / 10)) (c ∷ []) (drop (suc k) digits)
    ∙ ap (λ (l : List ℕ). last_digits k (front / 10) ++ l) (ap (λ (n : ℕ). c ∷ drop n digits) next ∙ sym (drop-set_at digits k k c refl lt))

pub none_left : (n : ℕ) (digits : List ℕ) → last_digits 0 n ++ drop 0 digits ≡ digits
unfolding last_digits
none_left n digits = refl

pub ascii : (places n : ℕ) → IsAscii (last_digits places n)
unfolding last_digits
ascii zero n = IsAscii-nil
ascii (suc places) n = IsAscii-push (last_digits places (n / 10)) (48 + n % 10) (ascii places (n / 10)) (omega arith)

pub is_text : (digits : List ℕ) (n : ℕ) → digits ≡ last_digits 20 n → IsUtf8 digits
is_text digits n e = subst (λ (l : List ℕ). IsUtf8 l) (sym e) (IsUtf8-from_ascii (last_digits 20 n) (ascii 20 n))

-- Hex digits. ---------------------------------------------------------------------------------------------------------

pub length-hex : (bytes : List ℕ) → length (encode_lower bytes) ≡ 2 * length bytes
length-hex bytes = length-encode_with lower_digits bytes

pub decoded : (text id : List ℕ) → length id ≡ 16 → IsBytes id → text ≡ encode_lower id → decode_sized text 16 ≡ Ok id
decoded text id long bytes e =
    ap (λ (l : List ℕ). decode_sized l 16) e ∙ decode_sized-twice (encode_lower id) 16 (omega (arith, length-hex id)) ∙ decode_of-encode_lower id bytes
