-- What a line of a file of addresses says.
use Rattle.std.specs.Prelude.{ℕ, ◌-◌, ◌^◌, ◌==◌, nat_lt, Bool, ◌&&◌, ◌||◌, if◌then◌else◌, List, [], ◌∷◌, length, take, drop, slice_index, Option, Some, None, Result, Ok, Err}
use Rattle.std.specs.Char.{is_ascii_digit}
use Rattle.std.specs.List.{list_all, position_or_len}
use Rattle.std.specs.Str.Parse.{digits_value}
use Rattle.amqp_addresses.specs.declared.faults.LineFault.{LineFault}
use Rattle.amqp_addresses.specs.declared.faults.LineFault.TheVariants.{TooLong, NoAddress, BadCredit}
use Rattle.amqp_addresses.specs.Spelling.{address_of}

-- which addresses a line admits, one or all that begin so, and the most credit of their links
pub record Said : Type 0 where
  pub address : List ℕ
  pub is_prefix : Bool
  pub credit : ℕ

-- an empty line, or one that begins with `#`
abbrev pub is_remark : List ℕ → Bool
is_remark line = length line == 0 || slice_index line 0 == 35

-- how many characters its first word has, up to a space
abbrev pub word_len : List ℕ → ℕ
word_len line = position_or_len (λ c. c == 32) line

-- the credit that decimal digits write: 1 to 2^32 - 1
abbrev pub credit_of : List ℕ → Result ℕ LineFault
credit_of digits =
    if list_all is_ascii_digit digits && (nat_lt 0 (digits_value 10 digits) && nat_lt (digits_value 10 digits) (2 ^ 32)) then Ok (digits_value 10 digits)
    else Err BadCredit

-- the credit by what is behind the first word: nothing, or a space and digits
abbrev pub credit_behind : ℕ → List ℕ → Result ℕ LineFault
credit_behind otherwise [] = Ok otherwise
credit_behind otherwise (space ∷ digits) = credit_of digits

-- a word that ends with `*`
abbrev pub is_prefix : List ℕ → Bool
is_prefix word = slice_index word (length word - 1) == 42

-- a word without the `*` at its end
abbrev pub spelling : List ℕ → List ℕ
spelling word = if is_prefix word then take (length word - 1) word else word

abbrev pub said_with : Bool → Result ℕ LineFault → Result (List ℕ) LineFault → Result Said LineFault
said_with prefix (Err fault) address = Err fault
said_with prefix (Ok credit) (Err fault) = Err fault
said_with prefix (Ok credit) (Ok address) = Ok (record { address = address; is_prefix = prefix; credit = credit })

-- what a word and the characters behind it say
abbrev pub said_by : (otherwise : ℕ) (word behind : List ℕ) → Result Said LineFault
said_by otherwise word behind =
    if length word == 0 then Err NoAddress
    else said_with (is_prefix word) (credit_behind otherwise behind) (address_of (spelling word))

abbrev pub as_some : Result Said LineFault → Result (Option Said) LineFault
as_some (Err fault) = Err fault
as_some (Ok said) = Ok (Some said)

-- What a line says: nothing, if it is a remark; else `ADDRESS CREDIT`, `PREFIX* CREDIT`, or one of these without a credit, which is then
-- this one.
abbrev pub line_says : ℕ → List ℕ → Result (Option Said) LineFault
line_says otherwise line =
    if nat_lt 4096 (length line) then Err TooLong
    else if is_remark line then Ok None
    else as_some (said_by otherwise (take (word_len line) line) (drop (word_len line) line))
