-- What is proved of a spool between two calls, and of its lives.
use Rattle.std.specs.Prelude.{◌≡◌, ℕ, ◌≤◌, ◌<◌, List, [], ◌∷◌, ◌++◌, length, take, None, false}
use Rattle.amqp_spool.specs.declared.head.Head.{Head}
use Rattle.amqp_spool.specs.Chapters.{Chapter, Reads}
use Rattle.amqp_spool.specs.Folders.{Segment, File, State, Left, IsLeft, content}
use Rattle.amqp_spool.specs.Heads.{head_text}
use Rattle.amqp_spool.specs.Reads.{IsFound, AreBack}
use Rattle.amqp_spool.specs.Sayings.{Puts}
use Rattle.amqp_spool.specs.Spools.{KeepsTold, ReadsTold}

-- Whatever a crash leaves, what is read of it are the records that were told, but for those that the floor has passed.
abbrev pub AreRead : Puts → State → Type 0
AreRead told t = (c : Left) → IsLeft t c → (ch : Chapter) (chs : List Chapter) → Reads c ch chs → ReadsTold told ch chs

-- The next life may find this after a life that ended at that moment: all names are on the disk, and a crash leaves nothing that it could not have left then.
pub record IsFoundAfter (s t : State) : Type 0 where
  pub found : IsFound t
  pub fewer : (c : Left) → IsLeft t c → IsLeft s c

-- the folder that is found after a loss of power left this
abbrev pub found_files : List File → List Segment
found_files [] = []
found_files (f ∷ fs) = record { first = f.first; kept = f.bytes; tail = []; spent = false } ∷ found_files fs

abbrev pub found_as : Left → State
found_as c = record { segments = found_files c.files; added = None; removed = []; floor = c.floor; raised = c.floor; spare = 0 }

-- What was told is read.
abbrev pub TheToldAreRead : Type 0
TheToldAreRead = (told : Puts) (t : State) → KeepsTold told t → AreRead told t

-- What one life was told, the next one finds.
abbrev pub EachLifeFindsTheTold : Type 0
EachLifeFindsTheTold = (told : Puts) (s t : State) → KeepsTold told s → IsFoundAfter s t → KeepsTold told t

-- A loss of power at any moment leaves a folder that may be found.
abbrev pub EachLossIsFound : Type 0
EachLossIsFound = (s : State) (c : Left) → IsLeft s c → IsFoundAfter s (found_as c)

-- The segment behind these is named by this head: that of the last of them, or that of the newest if there are none.
abbrev pub NamesTheNext : Head → List Segment → Head → Type 0
NamesTheNext newest [] head = head ≡ newest
NamesTheNext newest (s ∷ []) head = (take 80 (content s) ≡ head_text head) × (head.first ≡ s.first)
NamesTheNext newest (s ∷ r ∷ ss) head = NamesTheNext newest (r ∷ ss) head

-- A number has its segment behind the newest: it begins there or before. The one after it begins later, names it, and counts bytes that are all there.
pub record HasItsSegment (number : ℕ) (newest : Head) (ss : List Segment) : Type 0 where
  pub newer : List Segment
  pub segment : Segment
  pub older : List Segment
  pub whole : ss ≡ newer ++ segment ∷ older
  pub begins : segment.first ≤ number
  pub next : Head
  pub names : NamesTheNext newest newer next
  pub before : next.before ≡ segment.first
  pub ends : number < next.first
  pub counted : next.counted ≤ length (content segment)
  pub head : Head
  pub text : take 80 (content segment) ≡ head_text head
  pub first : head.first ≡ segment.first
  pub spool : head.spool ≡ newest.spool

-- If all are there back to the floor, each number above the floor and below the newest has its segment.
abbrev pub EachNumberHasItsSegment : Type 0
EachNumberHasItsSegment = (floor : ℕ) (newest : Head) (ss : List Segment) → AreBack floor newest ss → (number : ℕ) → floor < number → number < newest.first → HasItsSegment number newest ss
