-- The lines that are printed, and where they are printed to.
use Rattle.std.specs.Prelude.{◌≡◌, ℕ, Bool, not, IsTrue, List, [], ◌∷◌, ◌++◌, Option}
use Rattle.std.specs.Io.KnownBytes.{Appends, Consumes}
use Rattle.std.specs.List.{list_any}
use Rattle.amqp_frame.specs.Units.{StreamUnit, Units}
use Rattle.amqp_dump.specs.declared.scan.Scanner.{Scanner}
use Rattle.amqp_dump.specs.declared.scan.TheConstants.{MAX_FRAME}
use Rattle.amqp_dump.specs.Entries.{Entry, is_fault, whole_entries, TellsOf}
use Rattle.amqp_dump.specs.Pages.{IsLineOf}
use Rattle.amqp_dump.specs.Steps.{HasTold}

-- one line for each entry, in order
abbrev pub AreLines : List Entry → List ℕ → Type 0
AreLines [] bytes = bytes ≡ []
AreLines (entry ∷ entries) bytes = (line others : List ℕ) × IsLineOf entry line × AreLines entries others × (bytes ≡ line ++ others)

-- a line was put after what waited, and some of that was written
pub record Puts (line : List ℕ) (held now : Option (List ℕ)) (waited waits : List ℕ) : Type 0 where
  pub written : List ℕ
  pub went : Appends held now written
  pub joined : written ++ waits ≡ waited ++ line

-- the line of an entry was put after what waited, and some of that was written
pub record Prints (entry : Entry) (held now : Option (List ℕ)) (waited waits : List ℕ) : Type 0 where
  pub line : List ℕ
  pub is : IsLineOf entry line
  pub put : Puts line held now waited waits

-- What was printed while these bytes came, after what the writer held: each whole unit's line, except for what waits.
pub record HasPrinted (held now : Option (List ℕ)) (waiting : List ℕ) (s : Scanner) (bytes : List ℕ) : Type 0 where
  pub entries : List Entry
  pub written : List ℕ
  pub told : HasTold s bytes entries
  pub went : Appends held now written
  pub lines : AreLines entries (written ++ waiting)

-- The dump of a stream that begins with these bytes and, if they are all, ends with them. It is clean if no entry is a fault.
pub record IsDump (held now : Option (List ℕ)) (bytes : List ℕ) (all clean : Bool) : Type 0 where
  pub entries : List Entry
  pub written : List ℕ
  pub told : (more : List ℕ) → (IsTrue all → more ≡ []) → TellsOf (bytes ++ more) entries
  pub went : Appends held now written
  pub lines : AreLines entries written
  pub answer : clean ≡ not (list_any is_fault entries)

-- the beginning of the dump of each stream that begins with these bytes and, if they are all, ends with them
pub record BeginsDump (held now : Option (List ℕ)) (bytes : List ℕ) (all : Bool) : Type 0 where
  pub entries : List Entry
  pub written : List ℕ
  pub missing : List ℕ
  pub told : (more : List ℕ) → (IsTrue all → more ≡ []) → (others : List Entry) × TellsOf (bytes ++ more) (entries ++ others)
  pub went : Appends held now written
  pub lines : AreLines entries (written ++ missing)

-- a line was written for each whole unit of these bytes, and nothing else
pub record ShowsUnits (held now : Option (List ℕ)) (bytes : List ℕ) : Type 0 where
  pub units : List StreamUnit
  pub rest : List ℕ
  pub written : List ℕ
  pub reading : Units MAX_FRAME bytes units rest
  pub went : Appends held now written
  pub lines : AreLines (whole_entries 0 units) written

-- of the bytes that a reader gave: a dump; the beginning of one; the lines of their whole units
abbrev pub Dumps : (left rest held now : Option (List ℕ)) (all clean : Bool) → Type 0
Dumps left rest held now all clean = (bytes : List ℕ) × Consumes left rest bytes × IsDump held now bytes all clean

abbrev pub BreaksOff : (left rest held now : Option (List ℕ)) (all : Bool) → Type 0
BreaksOff left rest held now all = (bytes : List ℕ) × Consumes left rest bytes × BeginsDump held now bytes all

abbrev pub Shows : (left rest held now : Option (List ℕ)) → Type 0
Shows left rest held now = (bytes : List ℕ) × Consumes left rest bytes × ShowsUnits held now bytes
