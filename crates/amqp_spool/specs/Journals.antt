-- A journal between two calls.
use Rattle.std.specs.Prelude.{◌≡◌, ◌≢◌, ◌⊎◌, ◌+◌, ◌≤◌, ◌<◌, ◌^◌, ℕ, eqb, Bool, true, false, List, ◌∷◌, [], ◌++◌, length, None, Result, Ok, Err, OnOk, OnErr}
use Rattle.amqp_spool.specs.declared.journal.Journal.{Journal}
use Rattle.amqp_spool.specs.declared.folder.FolderFault.{FolderFault}
use Rattle.amqp_spool.specs.declared.head.Head.{Head}
use Rattle.amqp_spool.specs.declared.folder.FolderFault.TheVariants as folder
use Rattle.amqp_spool.specs.declared.journal.JournalFault.{JournalFault}
use Rattle.amqp_spool.specs.declared.journal.JournalFault.TheVariants as fault
use Rattle.amqp_spool.specs.Batches.{Batch}
use Rattle.amqp_spool.specs.Chapters.{Chapter, Chained, Holds, IsAt, AreTold, GoesOnFrom, KeepsOn, StaysOn, with_batch, chapter_text, next_of}
use Rattle.amqp_spool.specs.Counting.{total, HasCounts, IsExactly}
use Rattle.amqp_spool.specs.Folders.{State, Left, History, Now, Since, MayWrite, IsAdded, IsLeft, stored, size}
use Rattle.amqp_spool.specs.Sayings.{Puts, Says}
use Rattle.amqp_spool.specs.declared.segments.Named.{Named}

-- as a folder tells it
abbrev pub as_told : FolderFault → JournalFault
as_told folder.Full = fault.Full
as_told folder.Failed = fault.Failed

-- The limits stay, and so do the chapter, its place and the next number.
pub record HaveLimits {F : Type 0} (old new : Journal F) : Type 0 where
  pub limit : new.limit ≡ old.limit
  pub segment : new.segment ≡ old.segment
  pub life : new.life ≡ old.life

pub record AreSame {F : Type 0} (old new : Journal F) : Type 0 where
  pub limits : HaveLimits old new
  pub head : new.head ≡ old.head
  pub place : new.place ≡ old.place
  pub next : new.next ≡ old.next
  pub floor : new.floor ≡ old.floor

-- The folder has at most so many bytes of segments, and of one that is being made.
abbrev pub HasMost : ℕ → ℕ → State → Type 0
HasMost used spare t = (stored t ≤ used) × (t.spare ≤ spare)

-- A crash at this moment leaves at most so many bytes.
abbrev pub LeavesMost : ℕ → State → Type 0
LeavesMost bound t = (c : Left) → IsLeft t c → size c ≤ bound

-- As long as its folder has not failed it knows the segments, and the floor.
pub record IsWell (ns : List Named) (used whole floor : ℕ) (t : State) : Type 0 where
  pub counts : HasCounts ns used whole t
  pub added : t.added ≡ None
  pub floor_is : t.floor ≡ floor

-- What it counts is what its folder has at most, and within its limit. As long as the folder has not failed that is exactly what its segments count, of which there is one at least. The newest segment takes writes unless it is spent.
pub record IsCounted {F : Type 0} (history : F → History) (s : Journal F) : Type 0 where
  pub fits : (s.limit < 2 ^ 64) × (s.segment < 2 ^ 64) × (s.life < 2 ^ 64)
  pub within : s.used ≤ s.limit
  pub place : s.place < 2 ^ 64
  pub sum : total s.segments.list.items ≤ s.used
  pub exact : s.failed ≡ false → IsExactly s.used s.segments.list.items
  pub most : Now (HasMost s.used s.segment) (history s.folder)
  pub well : s.failed ≡ false → Now (IsWell s.segments.list.items s.used s.segment s.floor) (history s.folder)
  pub writes : s.failed ≡ false → s.spent ≡ false → Now MayWrite (history s.folder)

-- It goes on in this chapter, after these. A batch may go to the end of its segment unless that is spent.
pub record StandsAt {F : Type 0} (history : F → History) (ch : Chapter) (chs : List Chapter) (s : Journal F) : Type 0 where
  pub chained : Chained (ch ∷ chs)
  pub head : s.head ≡ ch.head
  pub place : s.place ≡ length (chapter_text ch)
  pub next : s.next ≡ next_of ch
  pub holds : Now (Holds ch chs) (history s.folder)
  pub well : s.spent ≡ false → Now (IsAt ch chs) (history s.folder)
  pub alive : s.failed ≡ false

-- All these batches were told, and it goes on after them.
pub record Stands {F : Type 0} (history : F → History) (all : List Batch) (s : Journal F) : Type 0 where
  pub chapter : Chapter
  pub older : List Chapter
  pub told : AreTold all chapter older
  pub at : StandsAt history chapter older s

-- It goes on in the same chapters.
abbrev pub StaysAt : {F : Type 0} (history : F → History) (all : List Batch) {old : Journal F} → Stands history all old → Journal F → Type 0
StaysAt history all it new = (now : Stands history all new) × (now.chapter ≡ it.chapter) × (now.older ≡ it.older)

-- The head of the next segment, with this secret: it goes after the newest, or in its place if that has no batch.
abbrev pub head_by : {F : Type 0} → Bool → Journal F → List ℕ → Head
head_by true s secret = record s.head { secret = secret; life = s.life }
head_by false s secret = record s.head { secret = secret; first = s.next; before = s.head.first; counted = s.place; life = s.life }

abbrev pub head_after : {F : Type 0} → Journal F → List ℕ → Head
head_after s secret = head_by (eqb s.next s.head.first) s secret

-- One batch more was told: it stands after it, if that was done. Unless the folder failed it stands as it did if it was not. What was told before is kept at each moment.
pub record IsSettled {F : Type 0} (history : F → History) (ch : Chapter) (chs : List Chapter) (is : Batch → Chapter → List Chapter → Type 0) (all : List Batch) (result : Result (Unit {0}) JournalFault) (old new : Journal F) : Type 0 where
  pub done : OnOk result ((b : Batch) × (now : Stands history (all ++ b ∷ []) new) × is b now.chapter now.older)
  pub refused : OnErr result (result ≢ Err fault.Failed → (now : Stands history all new) × (now.chapter ≡ ch) × (now.older ≡ chs))
  pub kept : Since (KeepsOn ch chs) (history old.folder) (history new.folder)

-- a batch of so many records that has this body, and arrived then
abbrev pub HasBody : ℕ → ℕ → List ℕ → Batch → Type 0
HasBody arrived count body b = (b.head.count ≡ count) × (b.body ≡ body) × (b.head.arrived ≡ arrived)

-- After these chapters it went to the end of the newest,
abbrev pub GoesHere : ℕ → Chapter → List Chapter → ℕ → List ℕ → Batch → Chapter → List Chapter → Type 0
GoesHere arrived ch chs count body b now older = HasBody arrived count body b × (now ≡ with_batch b ch) × (older ≡ chs)

-- or into a new one, after the newest, or in its place if that has no batch.
abbrev pub GoesAnew : ℕ → Chapter → List Chapter → ℕ → List ℕ → Batch → Chapter → List Chapter → Type 0
GoesAnew arrived ch chs count body b now older =
    HasBody arrived count body b × (now.batches ≡ b ∷ []) × (now.head.first ≡ next_of ch) × ((older ≡ ch ∷ chs) ⊎ ((older ≡ chs) × (ch.batches ≡ [])))

abbrev pub GoesEither : ℕ → Chapter → List Chapter → ℕ → List ℕ → List ℕ → Batch → Chapter → List Chapter → Type 0
GoesEither arrived ch chs count here anew b now older = GoesHere arrived ch chs count here b now older ⊎ GoesAnew arrived ch chs count anew b now older

-- A segment was added, as the spool tells it.
abbrev pub IsRenewed : ℕ → List ℕ → Result (Unit {0}) JournalFault → State → State → Type 0
IsRenewed first bytes (Ok x) old new = IsAdded first bytes (Ok x) old new
IsRenewed first bytes (Err fault.Full) old new = IsAdded first bytes (Err folder.Full) old new
IsRenewed first bytes (Err x) old new = IsAdded first bytes (Err folder.Failed) old new

-- The limits that it was made with.
pub record HaveBounds {F : Type 0} (old new : Journal F) : Type 0 where
  pub limit : new.limit ≡ old.limit
  pub segment : new.segment ≡ old.segment

-- A folder that has nothing.
pub record IsEmpty (t : State) : Type 0 where
  pub none : t.segments ≡ []
  pub floor : t.floor ≡ 0

-- It goes on in chapters that go on from these. The newest reads alone.
pub record GoesOn {F : Type 0} (history : F → History) (ch : Chapter) (chs : List Chapter) (s : Journal F) : Type 0 where
  pub chapter : Chapter
  pub older : List Chapter
  pub puts : Puts
  pub from : GoesOnFrom ch chs chapter older
  pub says : Says chapter puts
  pub at : StandsAt history chapter older s

-- It was started: it goes on from these chapters. They are kept at each moment.
pub record IsStarted {F : Type 0} (history : F → History) (ch : Chapter) (chs : List Chapter) (result : Result (Unit {0}) JournalFault) (old new : Journal F) : Type 0 where
  pub done : OnOk result (GoesOn history ch chs new)
  pub kept : Since (KeepsOn ch chs) (history old.folder) (history new.folder)

-- The floor is at most this number, whatever a crash leaves.
abbrev pub HasFloor : ℕ → State → Type 0
HasFloor n t = t.raised ≤ n

-- It goes on in the same chapter, after what is left of the older ones.
pub record IsLeftIn {F : Type 0} (history : F → History) (all : List Batch) {old : Journal F} (it : Stands history all old) (new : Journal F) : Type 0 where
  pub now : Stands history all new
  pub chapter : now.chapter ≡ it.chapter
  pub gone : List Chapter
  pub older : it.older ≡ now.older ++ gone

-- It was tended: it stands as it did, unless the folder failed, and what was told is kept at each moment.
pub record IsTended {F : Type 0} {A : Type 0} (history : F → History) (all : List Batch) (result : Result A JournalFault) (old new : Journal F) (it : Stands history all old) : Type 0 where
  pub stands : result ≢ Err fault.Failed → IsLeftIn history all it new
  pub kept : Since (StaysOn it.chapter it.older) (history old.folder) (history new.folder)

-- Why a batch may be refused of which the folder was not asked: memory was refused, or there is no room.
abbrev pub IsRefused : Type 0 → JournalFault → Type 0
IsRefused none f = (f ≡ fault.NoMemory) ⊎ ((f ≡ fault.Full) × none)

-- So many bytes more have no room,
abbrev pub HasNoRoom : {F : Type 0} → ℕ → Journal F → Type 0
HasNoRoom len s = s.limit < s.used + len

-- or none at the end of the newest segment: nothing more may be asked of it, or it would be too long.
abbrev pub HasNoRoomHere : {F : Type 0} → ℕ → Journal F → Type 0
HasNoRoomHere len s = (s.spent ≡ true) ⊎ (s.segment < s.place + len) ⊎ HasNoRoom len s
