-- What the lines of a file say together.
use Rattle.std.specs.Prelude.{◌≡◌, ℕ, ◌+◌, ◌<◌, ◌==◌, nat_lt, bytes_eq, Bool, false, not, ◌&&◌, if◌then◌else◌, List, length, take, slice_get, Option, Some, None, Result, Ok, Err, ⊤}
use Rattle.std.specs.List.{list_any, filter_map, slice_split}
use Rattle.amqp_addresses.specs.declared.faults.LineFault.{LineFault}
use Rattle.amqp_addresses.specs.declared.faults.LineFault.TheVariants.{TooMany, Twice}
use Rattle.amqp_addresses.specs.declared.faults.AddressesFault.{AddressesFault}
use Rattle.amqp_addresses.specs.declared.faults.AddressesFault.TheVariants.{TooLarge, NoMemory, Line}
use Rattle.amqp_addresses.specs.Lines.{Said, line_says}

-- A newline ends a line. What is behind the last one is a line too, which may be empty.
abbrev pub lines : List ℕ → List (List ℕ)
lines text = slice_split (λ c. c == 10) text

-- what a line says, if it says something
abbrev pub said_in : Result (Option Said) LineFault → Option Said
said_in (Err fault) = None
said_in (Ok said) = said

-- what some lines say, in their order
abbrev pub all_said : ℕ → List (List ℕ) → List Said
all_said otherwise lines_ = filter_map (λ line. said_in (line_says otherwise line)) lines_

-- both say the same of addresses: both this one, or both all that begin so
abbrev pub is_same : Said → Said → Bool
is_same a b = (if a.is_prefix then b.is_prefix else not b.is_prefix) && bytes_eq a.address b.address

-- the fault of one more behind these: there are 1,024 already, or one of them has its address
abbrev pub fault_behind : List Said → Said → Option LineFault
fault_behind said more =
    if nat_lt (length said) 1024 then (if list_any (λ s. is_same s more) said then Some Twice else None)
    else Some TooMany

abbrev pub fault_in : List Said → Result (Option Said) LineFault → Option LineFault
fault_in said (Err fault) = Some fault
fault_in said (Ok None) = None
fault_in said (Ok (Some more)) = fault_behind said more

-- the fault of a line behind some others
abbrev pub fault_of : ℕ → List (List ℕ) → List ℕ → Option LineFault
fault_of otherwise earlier line = fault_in (all_said otherwise earlier) (line_says otherwise line)

-- the first lines, so many, have no fault
abbrev pub AreFine : ℕ → List (List ℕ) → ℕ → Type 0
AreFine otherwise lines_ n = (i : ℕ) (line : List ℕ) → i < n → slice_get lines_ i ≡ Some line → fault_of otherwise (take i lines_) line ≡ None

-- no line has a fault, and these are what they say
pub record AllSay (otherwise : ℕ) (lines_ : List (List ℕ)) (said : List Said) : Type 0 where
  pub fine : AreFine otherwise lines_ (length lines_)
  pub whole : said ≡ all_said otherwise lines_

-- the first line that has a fault is the n-th, counted from 1 on, and this is its fault
pub record IsFirstFault (otherwise : ℕ) (lines_ : List (List ℕ)) (n : ℕ) (fault : LineFault) : Type 0 where
  pub place : ℕ
  pub number : n ≡ place + 1
  pub line : List ℕ
  pub stands : slice_get lines_ place ≡ Some line
  pub before : AreFine otherwise lines_ place
  pub has : fault_of otherwise (take place lines_) line ≡ Some fault

-- no two of them say the same of addresses
abbrev pub NoTwo : List Said → Type 0
NoTwo said = (i j : ℕ) (a b : Said) → i < j → slice_get said i ≡ Some a → slice_get said j ≡ Some b → is_same a b ≡ false

-- why a text of lines is refused
abbrev pub IsFault : ℕ → List ℕ → AddressesFault → Type 0
IsFault otherwise text TooLarge = 1048576 < length text
IsFault otherwise text NoMemory = ⊤
IsFault otherwise text (Line n fault) = IsFirstFault otherwise (lines text) n fault
