-- What is proved of entries.
use Rattle.std.specs.Prelude.{◌≡◌, ℕ, ◌≤◌, List, length}
use Rattle.amqp_spool.specs.Entries.{Introduced, IsIntroduced, Entry, BeginsEntry, IsBody, introduction}

-- Bytes begin with one entry at most.
abbrev pub OneEntryAtAFront : Type 0
OneEntryAtAFront = (bytes rest other : List ℕ) (e f : Entry) → BeginsEntry bytes e rest → BeginsEntry bytes f other → (e ≡ f) × (rest ≡ other)

-- A body has one list of entries.
abbrev pub OneListOfEntries : Type 0
OneListOfEntries = (body : List ℕ) (es fs : List Entry) → IsBody body es → IsBody body fs → es ≡ fs

-- The longest introduction has 1867 bytes.
abbrev pub IntroductionsAreShort : Type 0
IntroductionsAreShort = (i : Introduced) → IsIntroduced i → length (introduction i) ≤ 1867
