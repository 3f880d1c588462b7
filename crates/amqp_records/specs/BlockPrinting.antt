-- What is written of a file of blocks.
use Rattle.std.specs.Prelude.{◌≡◌, ◌≢◌, ℕ, ◌+◌, ◌==◌, if◌then◌else◌, ◌⊎◌, List, [], ◌∷◌, ◌++◌, length, drop, codes, decimal, Option}
use Rattle.std.specs.Io.KnownBytes.{Appends, Consumes}
use Rattle.amqp_records.specs.declared.faults.BlocksFault.{BlocksFault}
use Rattle.amqp_records.specs.declared.faults.BlocksFault.TheVariants as fault
use Rattle.amqp_records.specs.declared.printer.Output.{Output}
use Rattle.amqp_records.specs.declared.printer.Output.TheVariants.{Text, Json, Only}
use Rattle.amqp_records.specs.Records.{message_of, Holds}
use Rattle.amqp_records.specs.Printing.{IsLineOf}
use Rattle.amqp_records.specs.Blocks.{number_of, FileBlock, file_of, HoldsBlocks, IsTorn, BeginsNoBlock}

-- what a line of a connection begins with: its number, in JSON as the first member
abbrev pub connection_text : Output → ℕ → List ℕ
connection_text Json connection = codes "{\"connection\":" ++ (decimal connection ++ codes ",")
connection_text _ connection = codes "connection=" ++ (decimal connection ++ codes " ")

-- a line without the brace that an object begins with
abbrev pub behind_brace : Output → List ℕ → List ℕ
behind_brace Json line = drop 1 line
behind_brace _ line = line

abbrev pub with_connection : Output → ℕ → List ℕ → List ℕ
with_connection output connection line = connection_text output connection ++ behind_brace output line

abbrev pub IsLineWith : Output → (connection number : ℕ) → List ℕ → List ℕ → Type 0
IsLineWith output connection number record_ written = (line : List ℕ) × IsLineOf output number record_ line × (written ≡ with_connection output connection line)

-- what is written of the record with this number, of a connection: its line, or, if one message alone is wanted, that message and nothing of
-- others
abbrev pub IsTold : Output → (connection number : ℕ) → List ℕ → List ℕ → Type 0
IsTold Text connection number record_ written = IsLineWith Text connection number record_ written
IsTold Json connection number record_ written = IsLineWith Json connection number record_ written
IsTold (Only n) connection number record_ written = written ≡ (if number == n then message_of record_ else [])

-- a record, and the number of its connection
pub record Entry : Type 0 where
  pub connection : ℕ
  pub bytes : List ℕ

-- the entries of a block, and of blocks, in order
abbrev pub of_connection : ℕ → List (List ℕ) → List Entry
of_connection connection [] = []
of_connection connection (record_ ∷ records) = record { connection = connection; bytes = record_ } ∷ of_connection connection records

abbrev pub entries : List FileBlock → List Entry
entries [] = []
entries (b ∷ blocks) = of_connection (number_of b.head) b.records ++ entries blocks

-- what is written of these, in order, the first of which has this number
abbrev pub AreTold : Output → ℕ → List Entry → List ℕ → Type 0
AreTold output number [] written = written ≡ []
AreTold output number (e ∷ es) written =
    (first others : List ℕ) × IsTold output e.connection number e.bytes first × AreTold output (number + 1) es others × (written ≡ first ++ others)

-- of what is written of one record nothing was written, or a beginning
abbrev pub BeginsTelling : Output → (connection number : ℕ) → List ℕ → (held now : Option (List ℕ)) → Type 0
BeginsTelling output connection number record_ held now =
    Appends held now [] ⊎ ((written missing : List ℕ) × IsTold output connection number record_ (written ++ missing) × Appends held now written)

-- what was written of the records of a block, the first of which has this number
pub record TellsBlock (output : Output) (limit connection : ℕ) (bytes : List ℕ) (held now : Option (List ℕ)) (number next : ℕ) : Type 0 where
  pub records : List (List ℕ)
  pub written : List ℕ
  pub holds : Holds limit bytes records []
  pub went : Appends held now written
  pub are : AreTold output number (of_connection connection records) written
  pub counted : next ≡ number + length records

-- a beginning of what is written of a block's records was written
pub record BeginsToTell (output : Output) (limit connection : ℕ) (bytes : List ℕ) (held now : Option (List ℕ)) (number : ℕ) : Type 0 where
  pub records : List (List ℕ)
  pub others : List (List ℕ)
  pub written : List ℕ
  pub missing : List ℕ
  pub holds : Holds limit bytes (records ++ others) []
  pub went : Appends held now written
  pub are : AreTold output number (of_connection connection records) (written ++ missing)

-- What is written of each record of the whole blocks of these bytes, up to the rest, was written after what the writer held. The record that is
-- due has this number, and its block begins at this place.
pub record HasTold (output : Output) (limit : ℕ) (held now : Option (List ℕ)) (number place : ℕ) (rest bytes : List ℕ) : Type 0 where
  pub blocks : List FileBlock
  pub written : List ℕ
  pub holds : HoldsBlocks limit bytes blocks rest
  pub went : Appends held now written
  pub are : AreTold output 1 (entries blocks) written
  pub counted : number ≡ length (entries blocks) + 1
  pub placed : place ≡ length (file_of blocks)

-- a beginning of what is written of the records of these bytes was written
pub record HasBegunToTell (output : Output) (limit : ℕ) (held now : Option (List ℕ)) (bytes : List ℕ) : Type 0 where
  pub blocks : List FileBlock
  pub rest : List ℕ
  pub told : List Entry
  pub others : List Entry
  pub written : List ℕ
  pub missing : List ℕ
  pub holds : HoldsBlocks limit bytes blocks rest
  pub split : entries blocks ≡ told ++ others
  pub went : Appends held now written
  pub are : AreTold output 1 told (written ++ missing)

-- A reader gave bytes, and what is written of their whole blocks was written. These have this many records and bytes, and such a rest follows
-- them.
abbrev pub TellsBlocks : Output → ℕ → (left over held now : Option (List ℕ)) (count place : ℕ) → (List ℕ → Type 0) → Type 0
TellsBlocks output limit left over held now count place Rest =
    (bytes rest : List ℕ) × Consumes left over bytes × HasTold output limit held now (count + 1) place rest bytes × Rest rest

abbrev pub StopsTelling : Output → ℕ → (left over held now : Option (List ℕ)) → Type 0
StopsTelling output limit left over held now = (bytes : List ℕ) × Consumes left over bytes × HasBegunToTell output limit held now bytes

-- what follows the last whole block: less than a block; no block, nor the beginning of one
abbrev pub IsCutBlock : ℕ → List ℕ → Type 0
IsCutBlock limit rest = IsTorn limit rest × (rest ≢ [])

abbrev pub IsNoBlock : ℕ → List ℕ → Type 0
IsNoBlock limit rest = BeginsNoBlock limit rest × ¬ (IsTorn limit rest)

-- the fault is of a device or of memory, and not of a block
abbrev pub BreaksBlocks : BlocksFault → Type 0
BreaksBlocks (fault.Cut place) = ⊥
BreaksBlocks (fault.Block place) = ⊥
BreaksBlocks _ = Unit {0}
