-- A file of records, one after another, and what the bytes after the last whole one are.
use Rattle.std.specs.Prelude.{◌≡◌, ℕ, ◌+◌, nat_lt, if◌then◌else◌, List, [], ◌∷◌, ◌++◌, length, drop}
use Rattle.byteorder.specs.Endian.{big_number}
use Rattle.amqp_records.specs.declared.record.Front.{Front}
use Rattle.amqp_records.specs.declared.record.Front.TheVariants.{Whole, Partial, TooLong}

-- the length of a record's message, which the last four of its first 18 bytes say
abbrev pub said : List ℕ → ℕ
said bytes = big_number 4 (drop 14 bytes)

-- the numbers that a head gives, and the message after it
abbrev pub channel_of : List ℕ → ℕ
channel_of bytes = big_number 2 bytes

abbrev pub handle_of : List ℕ → ℕ
handle_of bytes = big_number 4 (drop 2 bytes)

abbrev pub id_of : List ℕ → ℕ
id_of bytes = big_number 4 (drop 6 bytes)

abbrev pub format_of : List ℕ → ℕ
format_of bytes = big_number 4 (drop 10 bytes)

abbrev pub message_of : List ℕ → List ℕ
message_of bytes = drop 18 bytes

-- what is at the front of these bytes, if a message has at most `limit` bytes
abbrev pub front_of : ℕ → List ℕ → Front
front_of limit bytes =
    if nat_lt (length bytes) 18 then Partial
    else if nat_lt limit (said bytes) then TooLong
    else if nat_lt (length bytes) (18 + said bytes) then Partial
    else Whole (18 + said bytes)

-- a record, and nothing after it
abbrev pub IsRecord : ℕ → List ℕ → Type 0
IsRecord limit bytes = front_of limit bytes ≡ Whole (length bytes)

abbrev pub AreRecords : ℕ → List (List ℕ) → Type 0
AreRecords limit [] = Unit {0}
AreRecords limit (record_ ∷ records) = IsRecord limit record_ × AreRecords limit records

-- the bytes of records, one after another
abbrev pub joined : List (List ℕ) → List ℕ
joined [] = []
joined (record_ ∷ records) = record_ ++ joined records

-- these bytes are records, one after another, and a rest
pub record Holds (limit : ℕ) (bytes : List ℕ) (records : List (List ℕ)) (rest : List ℕ) : Type 0 where
  pub each : AreRecords limit records
  pub is : bytes ≡ joined records ++ rest

-- the bytes begin with no whole record
abbrev pub BeginsNoRecord : ℕ → List ℕ → Type 0
BeginsNoRecord limit rest = (n : ℕ) → front_of limit rest ≡ Whole n → ⊥

-- bytes are read in one way as records and a rest that begins with none
abbrev pub OneReading : Type 0
OneReading = (limit : ℕ) (bytes rest other : List ℕ) (records others : List (List ℕ)) → Holds limit bytes records rest → BeginsNoRecord limit rest
    → Holds limit bytes others other → BeginsNoRecord limit other → (records ≡ others) × (rest ≡ other)
