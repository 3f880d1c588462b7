-- What segments have, and what is read of a folder.
use Rattle.std.specs.Prelude.{◌≡◌, ◌⊎◌, ◌<◌, ◌≤◌, ℕ, ◌+◌, List, [], ◌∷◌, ◌++◌, length, None, false, Result, Err, OnOk, OnErr}
use Rattle.amqp_spool.specs.declared.folder.FolderFault.{FolderFault}
use Rattle.amqp_spool.specs.declared.folder.FolderFault.TheVariants as fault
use Rattle.amqp_spool.specs.declared.head.Head.{Head}
use Rattle.amqp_spool.specs.Batches.{Batch, Follow, texts, records, EndsAt}
use Rattle.amqp_spool.specs.Folders.{Segment, State, File, Left, IsLeft, History, Now, Since}
use Rattle.amqp_spool.specs.Heads.{IsHead, head_text}

-- A segment: its head, and its batches.
pub record Chapter : Type 0 where
  pub head : Head
  pub batches : List Batch

abbrev pub chapter_text : Chapter → List ℕ
chapter_text ch = head_text ch.head ++ texts ch.head.secret ch.batches

-- the number of the next record
abbrev pub next_of : Chapter → ℕ
next_of ch = ch.head.first + records ch.batches

pub record IsChapter (ch : Chapter) : Type 0 where
  pub head : IsHead ch.head
  pub follow : Follow ch.head.first ch.batches

-- A chapter goes on where the one before it ends, and says how many bytes of that count.
pub record GoesOn (ch last : Chapter) : Type 0 where
  pub spool : ch.head.spool ≡ last.head.spool
  pub before : ch.head.before ≡ last.head.first
  pub counted : ch.head.counted ≡ length (chapter_text last)
  pub first : ch.head.first ≡ next_of last

-- chapters, the newest first
abbrev pub Chained : List Chapter → Type 0
Chained [] = Unit {0}
Chained (b ∷ []) = IsChapter b
Chained (b ∷ a ∷ chs) = IsChapter b × GoesOn b a × Chained (a ∷ chs)

-- A chapter is in bytes: it is their front.
pub record IsIn (ch : Chapter) (number : ℕ) (bytes : List ℕ) : Type 0 where
  pub first : number ≡ ch.head.first
  pub rest : List ℕ
  pub whole : bytes ≡ chapter_text ch ++ rest

-- Chapters are on the disk, each in its segment. Segments after theirs don't count.
abbrev pub AreIn : List Chapter → List Segment → Type 0
AreIn [] ss = Unit {0}
AreIn (ch ∷ chs) [] = ⊥
AreIn (ch ∷ chs) (s ∷ ss) = IsIn ch s.first s.kept × AreIn chs ss

-- the oldest of them
abbrev pub oldest : Chapter → List Chapter → Chapter
oldest ch [] = ch
oldest ch (a ∷ chs) = oldest a chs

-- The folder holds these chapters: they are on the disk, of the newest segment no more is, and no more may be missing than the floor says.
pub record Holds (ch : Chapter) (chs : List Chapter) (t : State) : Type 0 where
  pub chained : Chained (ch ∷ chs)
  pub newest : Segment
  pub older : List Segment
  pub segments : t.segments ≡ newest ∷ older
  pub first : newest.first ≡ ch.head.first
  pub kept : newest.kept ≡ chapter_text ch
  pub are : AreIn chs older
  pub added : t.added ≡ None
  pub low : (oldest ch chs).head.first ≤ t.floor + 1

-- and nothing else was written
pub record IsAt (ch : Chapter) (chs : List Chapter) (t : State) : Type 0 where
  pub holds : Holds ch chs t
  pub all : holds.newest.tail ≡ []
  pub well : holds.newest.spent ≡ false

-- What is read of files, the newest first: of each what the next one counts. Files after those are not looked into.
abbrev pub AreRead : List Chapter → List File → Type 0
AreRead [] fs = Unit {0}
AreRead (ch ∷ chs) [] = ⊥
AreRead (ch ∷ chs) (f ∷ fs) = IsIn ch f.first f.bytes × AreRead chs fs

-- One goes back, from the newest on, to the first chapter that begins where all before it may be missing.
abbrev pub Reaches : ℕ → List Chapter → Type 0
Reaches floor [] = ⊥
Reaches floor (ch ∷ []) = ch.head.first ≤ floor + 1
Reaches floor (ch ∷ a ∷ chs) = (floor + 1 < ch.head.first) × Reaches floor (a ∷ chs)

-- These chapters are in what a crash left.
pub record AreThere (c : Left) (ch : Chapter) (chs : List Chapter) : Type 0 where
  pub chained : Chained (ch ∷ chs)
  pub reaches : Reaches c.floor (ch ∷ chs)
  pub newest : File
  pub older : List File
  pub files : c.files ≡ newest ∷ older
  pub is : IsIn ch newest.first newest.bytes
  pub are : AreRead chs older

-- They are what is read: no batch follows in the newest.
pub record Reads (c : Left) (ch : Chapter) (chs : List Chapter) : Type 0 where
  pub there : AreThere c ch chs
  pub ends : EndsAt ch.head.secret (next_of ch) there.is.rest

-- with one batch more
abbrev pub with_batch : Batch → Chapter → Chapter
with_batch b ch = record ch { batches = ch.batches ++ b ∷ [] }

-- the batches of chapters, the oldest first
abbrev pub told : List Chapter → List Batch
told [] = []
told (ch ∷ chs) = told chs ++ ch.batches

-- These batches were told: chapters that are held have the last of them, from the first record of the oldest on.
pub record AreTold (all : List Batch) (ch : Chapter) (chs : List Chapter) : Type 0 where
  pub gone : List Batch
  pub same : all ≡ gone ++ told (ch ∷ chs)
  pub before : 1 + records gone ≡ (oldest ch chs).head.first

-- A chapter goes after these: after the newest, or in its place if that has no batch and the same name.
pub record GoesAfter (next ch : Chapter) (chs behind : List Chapter) : Type 0 where
  pub chained : Chained (next ∷ behind)
  pub place : ((behind ≡ ch ∷ chs) × (ch.head.first < next.head.first)) ⊎ ((behind ≡ chs) × (ch.batches ≡ []) × (ch.head.first ≡ next.head.first))

-- These are those chapters: the newest may have batches more, and older ones may be gone.
pub record IsMoreOf (ch : Chapter) (chs : List Chapter) (dh : Chapter) (ds : List Chapter) : Type 0 where
  pub more : List Batch
  pub newest : dh ≡ record ch { batches = ch.batches ++ more }
  pub rest : List Chapter
  pub older : chs ≡ ds ++ rest

-- They go on from those: they are those, or a new one was begun after them.
pub record GoesOnFrom (ch : Chapter) (chs : List Chapter) (dh : Chapter) (ds : List Chapter) : Type 0 where
  pub next : Chapter
  pub behind : List Chapter
  pub from : ((next ≡ ch) × (behind ≡ chs)) ⊎ GoesAfter next ch chs behind
  pub is : IsMoreOf next behind dh ds

-- What a crash leaves can be read.
abbrev pub IsReadable : State → Type 0
IsReadable t = (c : Left) → IsLeft t c → (ch : Chapter) × (chs : List Chapter) × AreThere c ch chs

-- What a crash leaves can be read, and these are the chapters.
abbrev pub LeavesRead : (Chapter → List Chapter → Type 0) → State → Type 0
LeavesRead R t = (c : Left) → IsLeft t c → ((dh : Chapter) × (ds : List Chapter) × AreThere c dh ds) × ((dh : Chapter) (ds : List Chapter) → Reads c dh ds → R dh ds)

-- It keeps these chapters, but for the oldest,
abbrev pub StaysOn : Chapter → List Chapter → State → Type 0
StaysOn ch chs = LeavesRead (IsMoreOf ch chs)

-- or goes on from them.
abbrev pub KeepsOn : Chapter → List Chapter → State → Type 0
KeepsOn ch chs = LeavesRead (GoesOnFrom ch chs)

-- A batch was put after what a folder held: it is held now if that was done, and what was told before is kept at each moment.
pub record IsPut (ch : Chapter) (chs : List Chapter) (b : Batch) (result : Result (Unit {0}) FolderFault) (old new : History) : Type 0 where
  pub done : OnOk result (Now (IsAt (with_batch b ch) chs) new)
  pub failed : OnErr result (Now (Holds ch chs) new)
  pub kept : Since (KeepsOn ch chs) old new

-- A segment was begun: it is held now if that was done, and what was told before is kept at each moment.
pub record IsBegun (next ch : Chapter) (chs behind : List Chapter) (result : Result (Unit {0}) FolderFault) (old new : History) : Type 0 where
  pub done : OnOk result (Now (IsAt next behind) new)
  pub full : result ≡ Err fault.Full → Now (Holds ch chs) new
  pub still : result ≡ Err fault.Full → Now (IsAt ch chs) old → Now (IsAt ch chs) new
  pub kept : Since (KeepsOn ch chs) old new
