-- A text is that of one position.
use Rattle.std.proofs.Common.{◌≡◌, ℕ, ◌<◌, ◌^◌, arith, List, length, refl, sym, ap, ◌∙◌}
use Rattle.std.specs.Str.Parse.{AllDigits, digits_value}
use Rattle.hex.specs.Hex.{IsBytes, encode_lower}
use Rattle.amqp_spool.specs.declared.position.Position.{Position}
use Rattle.amqp_spool.specs.Digits.{last_digits}
use Rattle.amqp_spool.specs.Positions.{IsPosition, position_text}
use Rattle.amqp_spool.proofs.LastDigits.{length-last_digits, all_digits, value_is}
use Rattle.amqp_spool.proofs.PositionTexts.{decoded}
use Rattle.amqp_spool.proofs.PositionPlaces.{spool_at, number_at}

pub digits_are : (places n : ℕ) → n < 10 ^ places → (length (last_digits places n) ≡ places) × AllDigits 10 (last_digits places n) × (digits_value 10 (last_digits places n) ≡ n)
digits_are places n lt = (length-last_digits places n, all_digits places n, value_is places n lt)

same_spools : (a b : List ℕ) → length a ≡ 16 → length b ≡ 16 → IsBytes a → IsBytes b → encode_lower a ≡ encode_lower b → a ≡ b
same_spools a b long wide bytes others e =
    let both = sym (decoded (encode_lower a) a long bytes refl) ∙ decoded (encode_lower a) b wide others e in
    cc both

same_numbers : (n m : ℕ) → n < 2 ^ 64 → m < 2 ^ 64 → last_digits 20 n ≡ last_digits 20 m → n ≡ m
same_numbers n m lt less e = sym (value_is 20 n (omega (arith, lt))) ∙ ap (λ (l : List ℕ). digits_value 10 l) e ∙ value_is 20 m (omega (arith, less))

abbrev position_with : List ℕ → ℕ → Position
position_with spool number = record { spool = spool; number = number }

pub one_position : (p q : Position) → IsPosition p → IsPosition q → position_text p ≡ position_text q → p ≡ q
one_position p q is js e =
    let text = position_text p in
    let spool = same_spools p.spool q.spool is.spool js.spool is.bytes js.bytes (sym (spool_at p is text refl) ∙ spool_at q js text e) in
    let number = same_numbers p.number q.number is.number js.number (sym (number_at p is text refl) ∙ number_at q js text e) in
    ap (λ (x : List ℕ). position_with x p.number) spool ∙ ap (λ (n : ℕ). position_with q.spool n) number
