-- What is proved of the texts of positions.
use Rattle.std.specs.Prelude.{◌≡◌, ℕ, ◌^◌, ◌<◌, length}
use Rattle.std.specs.Str.Parse.{AllDigits, digits_value}
use Rattle.amqp_spool.specs.declared.position.Position.{Position}
use Rattle.amqp_spool.specs.Digits.{last_digits}
use Rattle.amqp_spool.specs.Positions.{IsPosition, position_text}

-- The decimal digits of a number are that many digits, and have its value.
abbrev pub DigitsAreOfTheNumber : Type 0
DigitsAreOfTheNumber = (places n : ℕ) → n < 10 ^ places → (length (last_digits places n) ≡ places) × AllDigits 10 (last_digits places n) × (digits_value 10 (last_digits places n) ≡ n)

-- A text is that of one position.
abbrev pub OnePositionOfAText : Type 0
OnePositionOfAText = (p q : Position) → IsPosition p → IsPosition q → position_text p ≡ position_text q → p ≡ q
