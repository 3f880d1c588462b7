-- What is kept of a text that a peer chose, and what a field that holds a string or a uint spells (AMQP 1.0, part 1, sections 1.6.5 and 1.6.20).
use Rattle.std.specs.Prelude.{ℕ, ◌+◌, nat_eq, nat_le, if◌then◌else◌, List, [], ◌∷◌, length, take, drop, Option, Some, None}
use Rattle.std.specs.Int.{w32, from_be_bytes}
use Rattle.std.specs.Str.Lossy.{utf8_valid_len}

-- the most bytes that are kept of a text
abbrev pub most_kept : ℕ
most_kept = 255

-- bytes without the part of a character at their end
abbrev pub whole_text : List ℕ → List ℕ
whole_text bytes = take (utf8_valid_len bytes) bytes

-- the first bytes of a text, at most so many
abbrev pub first_text : List ℕ → List ℕ
first_text text = whole_text (take most_kept text)

-- the bytes of a string or a uint after their constructor, if there are as many [part 1, 1.6.20]
abbrev pub bytes_after : ℕ → List ℕ → Option (List ℕ)
bytes_after n bytes = if nat_le n (length bytes) then Some (take n bytes) else None

abbrev pub text_of_1 : List ℕ → Option (List ℕ)
text_of_1 [] = None
text_of_1 (n ∷ text) = bytes_after n text

abbrev pub text_of_4 : List ℕ → Option (List ℕ)
text_of_4 bytes = if nat_le 4 (length bytes) then bytes_after (from_be_bytes w32 (take 4 bytes)) (drop 4 bytes) else None

-- the text that these bytes spell, if they spell a string [part 1, 1.6.20]
abbrev pub string_in : List ℕ → Option (List ℕ)
string_in [] = None
string_in (code ∷ bytes) = if nat_eq code 0xa1 then text_of_1 bytes else if nat_eq code 0xb1 then text_of_4 bytes else None

abbrev pub number_of_1 : List ℕ → Option ℕ
number_of_1 [] = None
number_of_1 (n ∷ bytes) = Some n

abbrev pub number_of_4 : List ℕ → Option ℕ
number_of_4 bytes = if nat_le 4 (length bytes) then Some (from_be_bytes w32 (take 4 bytes)) else None

-- the number that these bytes spell, if they spell a uint [part 1, 1.6.5]
abbrev pub uint_in : List ℕ → Option ℕ
uint_in [] = None
uint_in (code ∷ bytes) =
    if nat_eq code 0x43 then Some 0 else if nat_eq code 0x52 then number_of_1 bytes else if nat_eq code 0x70 then number_of_4 bytes else None
