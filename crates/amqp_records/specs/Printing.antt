-- What is written of a file of records.
use Rattle.std.specs.Prelude.{◌≡◌, ◌≢◌, ℕ, ◌+◌, ◌==◌, if◌then◌else◌, ◌⊎◌, List, [], ◌∷◌, ◌++◌, length, Option}
use Rattle.std.specs.Io.KnownBytes.{Appends, Consumes}
use Rattle.amqp_records.specs.declared.faults.RecordsFault.{RecordsFault}
use Rattle.amqp_records.specs.declared.faults.RecordsFault.TheVariants as fault
use Rattle.amqp_records.specs.declared.printer.Output.{Output}
use Rattle.amqp_records.specs.declared.printer.Output.TheVariants.{Text, Json, Only}
use Rattle.amqp_records.specs.declared.record.Front.TheVariants as front
use Rattle.amqp_records.specs.Lines.{IsTextLine, IsJsonLine}
use Rattle.amqp_records.specs.Records.{message_of, front_of, joined, Holds}

-- the line of the record with this number
abbrev pub IsLineOf : Output → ℕ → List ℕ → List ℕ → Type 0
IsLineOf Json n record_ line = IsJsonLine n record_ line
IsLineOf _ n record_ line = IsTextLine n record_ line

-- what is written of the record with this number: a line, or, if one message alone is wanted, that message and nothing of others
abbrev pub IsWritten : Output → ℕ → List ℕ → List ℕ → Type 0
IsWritten Text number record_ written = IsTextLine number record_ written
IsWritten Json number record_ written = IsJsonLine number record_ written
IsWritten (Only n) number record_ written = written ≡ (if number == n then message_of record_ else [])

-- what is written of these records, in order, the first of which has this number
abbrev pub AreWritten : Output → ℕ → List (List ℕ) → List ℕ → Type 0
AreWritten output number [] written = written ≡ []
AreWritten output number (record_ ∷ records) written =
    (first others : List ℕ) × IsWritten output number record_ first × AreWritten output (number + 1) records others × (written ≡ first ++ others)

-- of what is written of one record nothing was written, or a beginning
abbrev pub BeginsWriting : Output → ℕ → List ℕ → (held now : Option (List ℕ)) → Type 0
BeginsWriting output number record_ held now =
    Appends held now [] ⊎ ((written missing : List ℕ) × IsWritten output number record_ (written ++ missing) × Appends held now written)

-- What is written of each record of these bytes, up to the rest, was written after what the writer held. The record that is due has this
-- number and begins at this place.
pub record HasPrinted (output : Output) (limit : ℕ) (held now : Option (List ℕ)) (number place : ℕ) (rest bytes : List ℕ) : Type 0 where
  pub records : List (List ℕ)
  pub written : List ℕ
  pub holds : Holds limit bytes records rest
  pub went : Appends held now written
  pub are : AreWritten output 1 records written
  pub counted : number ≡ length records + 1
  pub placed : place ≡ length (joined records)

-- a beginning of what is written of the records of these bytes was written
pub record HasBegun (output : Output) (limit : ℕ) (held now : Option (List ℕ)) (bytes : List ℕ) : Type 0 where
  pub records : List (List ℕ)
  pub rest : List ℕ
  pub written : List ℕ
  pub missing : List ℕ
  pub holds : Holds limit bytes records rest
  pub went : Appends held now written
  pub are : AreWritten output 1 records (written ++ missing)

-- A reader gave bytes, and what is written of their whole records was written. This many records have this many bytes, and such a rest
-- follows them.
abbrev pub Prints : Output → ℕ → (left over held now : Option (List ℕ)) (count place : ℕ) → (List ℕ → Type 0) → Type 0
Prints output limit left over held now count place Rest =
    (bytes rest : List ℕ) × Consumes left over bytes × HasPrinted output limit held now (count + 1) place rest bytes × Rest rest

abbrev pub BreaksOff : Output → ℕ → (left over held now : Option (List ℕ)) → Type 0
BreaksOff output limit left over held now = (bytes : List ℕ) × Consumes left over bytes × HasBegun output limit held now bytes

-- what follows the last whole record: nothing; less than a record; the head of one that is too long
abbrev pub IsNothing : List ℕ → Type 0
IsNothing rest = rest ≡ []

abbrev pub IsCut : ℕ → List ℕ → Type 0
IsCut limit rest = (front_of limit rest ≡ front.Partial) × (rest ≢ [])

abbrev pub IsTooLong : ℕ → List ℕ → Type 0
IsTooLong limit rest = front_of limit rest ≡ front.TooLong

-- the fault is of a device or of memory, and not of a record
abbrev pub BreaksIn : RecordsFault → Type 0
BreaksIn (fault.Cut place) = ⊥
BreaksIn (fault.TooLong place) = ⊥
BreaksIn _ = Unit {0}
