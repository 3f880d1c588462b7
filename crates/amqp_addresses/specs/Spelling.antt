-- How an address is spelled: each character stands for itself, and `\xHH` for the byte with these two hex digits.
use Rattle.std.specs.Prelude.{ℕ, zero, suc, ◌+◌, ◌*◌, ◌==◌, nat_lt, Bool, ◌&&◌, ◌||◌, if◌then◌else◌, List, [], ◌∷◌, slice_index, Option, Some, None, Result, Ok, Err}
use Rattle.std.specs.Str.{is_utf8}
use Rattle.hex.specs.Hex.{hex_digit_value}
use Rattle.amqp_addresses.specs.declared.faults.LineFault.{LineFault}
use Rattle.amqp_addresses.specs.declared.faults.LineFault.TheVariants.{BadCharacter, BadEscape, NotText}

-- A byte that stands for itself, unless it is a backslash: no space and no control character of ASCII.
abbrev pub is_plain : ℕ → Bool
is_plain c = nat_lt 32 c && (nat_lt c 127 || nat_lt 127 c)

-- the byte of two hex digits
abbrev pub pair_of : Option ℕ → Option ℕ → Result ℕ LineFault
pair_of (Some high) (Some low) = Ok (16 * high + low)
pair_of (Some high) None = Err BadEscape
pair_of None low = Err BadEscape

-- the byte of an escape, by what follows its backslash
abbrev pub escaped : List ℕ → Result ℕ LineFault
escaped text =
    if slice_index text 0 == 120 then pair_of (hex_digit_value (slice_index text 1)) (hex_digit_value (slice_index text 2))
    else Err BadEscape

-- the byte that is spelled by a character, and what follows it
abbrev pub byte_of : ℕ → List ℕ → Result ℕ LineFault
byte_of c text = if c == 92 then escaped text else if is_plain c then Ok c else Err BadCharacter

-- how many of those that follow it belong to it
abbrev pub more_of : ℕ → ℕ
more_of c = if c == 92 then 3 else 0

-- one byte before others
abbrev pub before : Result ℕ LineFault → Result (List ℕ) LineFault → Result (List ℕ) LineFault
before (Err fault) rest = Err fault
before (Ok byte) (Err fault) = Err fault
before (Ok byte) (Ok bytes) = Ok (byte ∷ bytes)

-- the bytes that a text spells, whose first characters, so many, belong to an escape before it
unfoldable pub spelled_after : ℕ → List ℕ → Result (List ℕ) LineFault
spelled_after skipped [] = Ok []
spelled_after (suc skipped) (c ∷ text) = spelled_after skipped text
spelled_after zero (c ∷ text) = before (byte_of c text) (spelled_after (more_of c) text)

-- the bytes that a text spells, or the first fault in it
abbrev pub spelled : List ℕ → Result (List ℕ) LineFault
spelled text = spelled_after 0 text

-- they are text in UTF-8
abbrev pub as_text : Result (List ℕ) LineFault → Result (List ℕ) LineFault
as_text (Err fault) = Err fault
as_text (Ok bytes) = if is_utf8 bytes then Ok bytes else Err NotText

-- the address that a text spells
abbrev pub address_of : List ℕ → Result (List ℕ) LineFault
address_of text = as_text (spelled text)
