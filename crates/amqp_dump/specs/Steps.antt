-- What was reported of a stream while its bytes come.
use Rattle.std.specs.Prelude.{◌≡◌, ℕ, ◌+◌, Bool, true, false, List, [], ◌∷◌, ◌++◌, length, take, Option, Some, None}
use Rattle.std.specs.List.{flat_map, list_any}
use Rattle.amqp_frame.specs.Units.{StreamUnit, bytes_of}
use Rattle.amqp_frame.specs.Splits.{SplitterState, Waits, WentBy, IsHeld, IsOver}
use Rattle.amqp_dump.specs.declared.scan.Scanner.{Scanner}
use Rattle.amqp_dump.specs.declared.scan.TheConstants.{MAX_FRAME}
use Rattle.amqp_dump.specs.declared.scanned.Scanned.{Scanned}
use Rattle.amqp_dump.specs.Pages.{Page, PutsLine}
use Rattle.amqp_dump.specs.Entries.{Entry, entry_of, is_fault, unit_entry, whole_entries, Tells}

-- this is reported of the unit that waits
pub record TellsWaiting (place : ℕ) (s : SplitterState) (item : Scanned) : Type 0 where
  pub unit : StreamUnit
  pub waits : Waits s unit
  pub told : entry_of item ≡ unit_entry place unit

-- the unit that waits, if one waits
abbrev pub IsWaiting : ℕ → SplitterState → Option Scanned → Type 0
IsWaiting place s None = (u : StreamUnit) → Waits s u → ⊥
IsWaiting place s (Some item) = TellsWaiting place s item

-- how many bytes a scanner took
abbrev pub taken_by : Scanner → ℕ
taken_by s = s.place + length s.splitter.filled

-- of the unit that is due, less than all came
pub record IsReady (s : Scanner) : Type 0 where
  pub limit : s.splitter.limit ≡ MAX_FRAME
  pub held : IsHeld s.splitter.limit s.splitter.stage s.splitter.filled
  pub due : IsOver s.splitter.stage → ⊥
  pub none : (u : StreamUnit) → Waits s.splitter u → ⊥

-- these bytes came, and each whole unit among them was reported; none of them is a fault
pub record HasTold (s : Scanner) (bytes : List ℕ) (entries : List Entry) : Type 0 where
  pub units : List StreamUnit
  pub went : WentBy s.splitter units bytes
  pub ready : IsReady s
  pub place : s.place ≡ length (flat_map bytes_of units)
  pub told : entries ≡ whole_entries 0 units
  pub clean : list_any is_fault entries ≡ false

-- what is reported of the bytes of a piece up to `end`, if these bytes and entries came before: nothing once the piece is taken
abbrev pub GoesOn : List ℕ → ℕ → Scanner → List ℕ → List Entry → Option Entry → Type 0
GoesOn piece end s before entries None = HasTold s (before ++ piece) entries
GoesOn piece end s before entries (Some entry) =
    (is_fault entry ≡ false → HasTold s (before ++ take end piece) (entries ++ entry ∷ []))
    × (is_fault entry ≡ true → Tells (before ++ piece) (entries ++ entry ∷ []))

-- what is reported of the bytes of a piece up to `end`, whatever came before the piece
abbrev pub Goes : (old : Scanner) (piece : List ℕ) (at end : ℕ) (s : Scanner) → Option Entry → Type 0
Goes old piece at end s entry = (before : List ℕ) (entries : List Entry) → HasTold old (before ++ take at piece) entries → GoesOn piece end s before entries entry

-- the line of the unit that ends in a piece was put, and it is known whether that is a fault; nothing was put if none ends there
abbrev pub PutsNext : (old : Scanner) (piece : List ℕ) (at end : ℕ) (s : Scanner) (waited waits : Page) → Option Bool → Type 0
PutsNext old piece at end s waited waits None = Goes old piece at end s None × (waits ≡ waited)
PutsNext old piece at end s waited waits (Some fault) = (entry : Entry) × (is_fault entry ≡ fault) × PutsLine entry waited waits × Goes old piece at end s (Some entry)

-- after what is no fault the scanner is ready again
abbrev pub IsReadyBehind : Scanner → Option Bool → Type 0
IsReadyBehind s None = IsReady s
IsReadyBehind s (Some fault) = fault ≡ false → IsReady s
