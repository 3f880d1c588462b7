-- What is read of a folder.
use Rattle.std.specs.Prelude.{◌≡◌, ◌⊎◌, ℕ, ◌+◌, ◌≤◌, ◌<◌, List, [], ◌∷◌, ◌++◌, length, take, drop, None}
use Rattle.amqp_spool.specs.declared.head.Head.{Head}
use Rattle.amqp_spool.specs.declared.segments.Named.{Named}
use Rattle.amqp_spool.specs.declared.scanning.Scanned.{Scanned}
use Rattle.amqp_spool.specs.Alone.{IsScannedAlone}
use Rattle.amqp_spool.specs.Batches.{IsScanned}
use Rattle.amqp_spool.specs.Chapters.{Chapter, Chained, Reaches, AreRead, AreThere}
use Rattle.amqp_spool.specs.Folders.{Segment, State, File, Left, content}
use Rattle.amqp_spool.specs.Heads.{IsHead, head_text}

-- the segments, each with how many bytes it has
abbrev pub AreNamed : List Named → List Segment → Type 0
AreNamed [] [] = Unit {0}
AreNamed (n ∷ ns) (s ∷ ss) = (n.first ≡ s.first) × (n.bytes ≡ length (content s)) × AreNamed ns ss
AreNamed _ _ = ⊥

abbrev pub HasNames : List Named → State → Type 0
HasNames ns t = AreNamed ns t.segments

-- These bytes are in the segment of this index, from a place on.
abbrev pub IsRead : ℕ → ℕ → List ℕ → State → Type 0
IsRead index at bytes t = (front : List Segment) (s : Segment) (rest : List Segment) → t.segments ≡ front ++ s ∷ rest → length front ≡ index → (at + length bytes ≤ length (content s)) × (bytes ≡ take (length bytes) (drop at (content s)))

-- The segment of this index begins with this head.
abbrev pub BeginsWith : ℕ → Head → State → Type 0
BeginsWith index head t = (front : List Segment) (s : Segment) (rest : List Segment) → t.segments ≡ front ++ s ∷ rest → length front ≡ index → take 80 (content s) ≡ head_text head

-- It begins with a head.
pub record HasHead (index : ℕ) (t : State) : Type 0 where
  pub front : List Segment
  pub segment : Segment
  pub rest : List Segment
  pub whole : t.segments ≡ front ++ segment ∷ rest
  pub at : length front ≡ index
  pub head : Head
  pub is : IsHead head
  pub text : take 80 (content segment) ≡ head_text head

-- The newest has these bytes, if it has so many.
abbrev pub NewestHas : ℕ → List ℕ → State → Type 0
NewestHas len bytes t = (s : Segment) (rest : List Segment) → t.segments ≡ s ∷ rest → length (content s) ≡ len → content s ≡ bytes

-- These bytes are the head of the newest and its batches that read alone, if it has so many, and the next record has this number.
abbrev pub IsNewest : ℕ → Head → List ℕ → ℕ → State → Type 0
IsNewest len head bytes next t = (s : Segment) (rest : List Segment) → t.segments ≡ s ∷ rest → length (content s) ≡ len
    → (take 80 (content s) ≡ head_text head) × ((scanned : Scanned) × (alone : Scanned) × IsScanned head.secret head.first (drop 80 (content s)) scanned × IsScannedAlone head.secret head.first (take scanned.end (drop 80 (content s))) alone
    × (bytes ≡ take (80 + alone.end) (content s)) × (next ≡ alone.next))

-- Records up to this number are there: after all that reads alone of the newest segment the next record has a higher one. Without segments there are none.
pub record IsShownIn (n : ℕ) (t : State) : Type 0 where
  pub none : t.segments ≡ [] → n ≡ 0
  pub newest : (s : Segment) (rest : List Segment) (head : Head) (bytes : List ℕ) (next : ℕ) → t.segments ≡ s ∷ rest → IsHead head → head.first ≡ s.first → IsNewest (length (content s)) head bytes next t → n < next

-- A folder as a start finds it: all names are on the disk, and nothing is half made.
pub record IsFound (t : State) : Type 0 where
  pub added : t.added ≡ None
  pub removed : t.removed ≡ []
  pub spare : t.spare ≡ 0
  pub raised : t.floor ≤ t.raised

-- Each segment is there that the one after it names, with the bytes that count, back to one that begins at most one after the floor.
abbrev pub AreBack : ℕ → Head → List Segment → Type 0
AreBack floor head [] = head.first ≤ floor + 1
AreBack floor head (s ∷ ss) =
    (head.first ≤ floor + 1)
    ⊎ ((older : Head) × (take 80 (content s) ≡ head_text older) × (s.first ≡ head.before) × (head.counted ≤ length (content s)) × (older.first ≡ s.first) × (older.spool ≡ head.spool) × AreBack floor older ss)

-- as it is seen
abbrev pub seen_files : List Segment → List File
seen_files [] = []
seen_files (s ∷ ss) = record { first = s.first; bytes = content s } ∷ seen_files ss

abbrev pub seen : State → Left
seen t = record { files = seen_files t.segments; floor = t.floor; spare = 0 }

-- Chapters are there.
abbrev pub IsSeen : State → Type 0
IsSeen t = (ch : Chapter) × (chs : List Chapter) × AreThere (seen t) ch chs

-- Chapters are there, the newest of which has this head.
pub record IsThere (head : Head) (t : State) : Type 0 where
  pub chapter : Chapter
  pub older : List Chapter
  pub there : AreThere (seen t) chapter older
  pub same : head ≡ chapter.head

-- So are those of a segment and of the ones before it: it has this index, and its head is this.
pub record IsBack (head : Head) (index : ℕ) (t : State) : Type 0 where
  pub front : List Segment
  pub segment : Segment
  pub rest : List Segment
  pub whole : t.segments ≡ front ++ segment ∷ rest
  pub at : length front ≡ index
  pub chapter : Chapter
  pub older : List Chapter
  pub same : head ≡ chapter.head
  pub chained : Chained (chapter ∷ older)
  pub reaches : Reaches t.floor (chapter ∷ older)
  pub are : AreRead older (seen_files rest)
