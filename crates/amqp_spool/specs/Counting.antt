-- How the bytes of segments are counted.
use Rattle.std.specs.Prelude.{◌≡◌, ℕ, ◌+◌, ◌≤◌, ◌<◌, eqb, cond, List, [], ◌∷◌, ◌++◌, length, sum_by, Option, Some, None}
use Rattle.std.specs.List.{All}
use Rattle.amqp_spool.specs.declared.segments.Named.{Named}
use Rattle.amqp_spool.specs.Folders.{Segment, State, content, lengths, added_length}

-- how many bytes count
abbrev pub total : List Named → ℕ
total ns = sum_by (λ n. n.bytes) ns

-- There is at least one, and they count so many bytes.
pub record IsExactly (used : ℕ) (ns : List Named) : Type 0 where
  pub is : used ≡ total ns
  pub some : 0 < length ns

-- with so many more for the newest
abbrev pub grown : ℕ → List Named → List Named
grown bytes [] = []
grown bytes (n ∷ ns) = record n { bytes = n.bytes + bytes } ∷ ns

-- A segment is put before the newest, or in its place.
abbrev pub but : ℕ → List Named → List Named
but first [] = []
but first (n ∷ ns) = cond (eqb n.first first) ns (n ∷ ns)

abbrev pub put : Named → List Named → List Named
put n ns = n ∷ but n.first ns

-- how many bytes counted for that one
abbrev pub freed : ℕ → List Named → ℕ
freed first [] = 0
freed first (n ∷ ns) = cond (eqb n.first first) n.bytes 0

-- Each segment has its name, and at most the bytes that count for it.
abbrev pub AreCounted : List Named → List Segment → Type 0
AreCounted [] [] = Unit {0}
AreCounted (n ∷ ns) (s ∷ ss) = (n.first ≡ s.first) × (length (content s) ≤ n.bytes) × AreCounted ns ss
AreCounted _ _ = ⊥

-- These are the segments of a folder, and all that may be there besides is counted too.
pub record HasCounts (ns : List Named) (used most : ℕ) (t : State) : Type 0 where
  pub are : AreCounted ns t.segments
  pub all : total ns + (added_length t.added + lengths t.removed) ≤ used
  pub spare : t.spare ≤ most

-- Which may go. -------------------------------------------------------------------------------------------------------

-- One of them has this first number.
abbrev pub HasFirst : ℕ → List Named → Type 0
HasFirst first ns = (front : List Named) × (n : Named) × (back : List Named) × (ns ≡ front ++ n ∷ back) × (n.first ≡ first)

-- The greatest first number that is at most one above this, if there is one.
abbrev pub IsNewestAt : ℕ → List Named → Option ℕ → Type 0
IsNewestAt passed ns None = All (λ n. passed + 1 < n.first) ns
IsNewestAt passed ns (Some first) = (first ≤ passed + 1) × HasFirst first ns × All (λ n. n.first ≤ passed + 1 → n.first ≤ first) ns

-- The floor is raised as far as that lets them go: each that begins at most one above this number begins at most one above the floor.
abbrev pub HasRaised : ℕ → ℕ → List Named → Type 0
HasRaised passed floor ns = All (λ n. n.first ≤ passed + 1 → n.first ≤ floor + 1) ns

-- The oldest has a record above this number, since the one after it begins later; or it is the newest.
abbrev pub OldestIsNeeded : ℕ → List Named → Type 0
OldestIsNeeded passed ns = (front : List Named) (newer older : Named) → ns ≡ front ++ newer ∷ older ∷ [] → passed + 1 < newer.first

-- So has each but the newest.
abbrev pub AllAreNeeded : ℕ → List Named → Type 0
AllAreNeeded passed ns = (front back : List Named) (newer older : Named) → ns ≡ front ++ newer ∷ older ∷ back → passed + 1 < newer.first

-- Each begins at most one above this number, so that nothing above it is in any but the newest.
abbrev pub AreAllPassed : ℕ → List Named → Type 0
AreAllPassed passed ns = All (λ n. n.first ≤ passed + 1) ns

-- The newest alone is left, and it alone is counted.
pub record OneIsLeft (used : ℕ) (ns : List Named) : Type 0 where
  pub newest : Named
  pub alone : ns ≡ newest ∷ []
  pub counted : used ≡ newest.bytes

-- None begins after one that is newer.
abbrev pub AreInOrder : List Named → Type 0
AreInOrder ns = (front back : List Named) (newer older : Named) → ns ≡ front ++ newer ∷ older ∷ back → older.first ≤ newer.first

-- The oldest ones are gone.
abbrev pub AreFrontOf : List Named → List Named → Type 0
AreFrontOf new old = (gone : List Named) × (old ≡ new ++ gone)

-- The oldest is gone: the one after it begins at most one above this number.
pub record IsFreed (floor : ℕ) (old new : List Named) : Type 0 where
  pub front : List Named
  pub newer : Named
  pub oldest : Named
  pub was : old ≡ front ++ newer ∷ oldest ∷ []
  pub is : new ≡ front ++ newer ∷ []
  pub low : newer.first ≤ floor + 1
