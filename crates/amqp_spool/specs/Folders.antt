-- A folder of segments: what is on the disk for sure, what may be, and what a crash leaves of it.
use Rattle.std.specs.Prelude.{◌≡◌, ◌⊎◌, ℕ, ◌+◌, ◌≤◌, max, eqb, cond, Bool, true, false, List, [], ◌∷◌, ◌++◌, length, take, drop, sum_by, Option, Some, None, Result, Ok, Err}
use Rattle.amqp_spool.specs.declared.folder.FolderFault.{FolderFault}
use Rattle.amqp_spool.specs.declared.folder.FolderFault.TheVariants as fault
use Rattle.amqp_spool.specs.Batches.{Batch}
use Rattle.amqp_spool.specs.Heads.{BeginsBatch}

-- The states of a folder. ---------------------------------------------------------------------------------------------

-- A segment: the number of its first record, the bytes that are on the disk, and those after them that may be. Nothing more may be asked of one that is spent: a write or a sync of it has failed.
pub record Segment : Type 0 where
  pub first : ℕ
  pub kept : List ℕ
  pub tail : List ℕ
  pub spent : Bool

-- A folder: its segments, the newest first; one that was added and may be there or not; those that were removed and may be there again; up to which number segments may be missing, at least and at most; and how many bytes
-- of a segment that is being made there may be.
pub record State : Type 0 where
  pub segments : List Segment
  pub added : Option Segment
  pub removed : List Segment
  pub floor : ℕ
  pub raised : ℕ
  pub spare : ℕ

-- all that a read returns of a segment
abbrev pub content : Segment → List ℕ
content s = s.kept ++ s.tail

abbrev pub whole_segment : ℕ → List ℕ → Segment
whole_segment first bytes = record { first = first; kept = bytes; tail = []; spent = false }

-- What its calls do. --------------------------------------------------------------------------------------------------

-- The newest segment takes writes.
pub record MayWrite (t : State) : Type 0 where
  pub newest : Segment
  pub rest : List Segment
  pub is : t.segments ≡ newest ∷ rest
  pub well : newest.spent ≡ false

abbrev pub with_newest : Segment → List Segment → State → State
with_newest s rest t = record t { segments = s ∷ rest }

-- These bytes were written at the end of the newest. If that failed, a beginning of them was, and it is spent.
abbrev pub IsAppended : List ℕ → Result (Unit {0}) FolderFault → State → State → Type 0
IsAppended bytes (Ok x) old new = (s : Segment) (rest : List Segment) → old.segments ≡ s ∷ rest → new ≡ with_newest (record s { tail = s.tail ++ bytes }) rest old
IsAppended bytes (Err f) old new = (s : Segment) (rest : List Segment) → old.segments ≡ s ∷ rest → (n : ℕ) × (n ≤ length bytes) × (new ≡ with_newest (record s { tail = s.tail ++ take n bytes; spent = true }) rest old)

-- The newest was synced: all that was written of it is on the disk. If that failed, it is spent.
abbrev pub IsSynced : Result (Unit {0}) FolderFault → State → State → Type 0
IsSynced (Ok x) old new = (s : Segment) (rest : List Segment) → old.segments ≡ s ∷ rest → new ≡ with_newest (record s { kept = content s; tail = [] }) rest old
IsSynced (Err f) old new = (s : Segment) (rest : List Segment) → old.segments ≡ s ∷ rest → new ≡ with_newest (record s { spent = true }) rest old

-- the segments, without a newest one that has this first number: its name is given to another
abbrev pub but_named : ℕ → List Segment → List Segment
but_named first [] = []
but_named first (s ∷ ss) = cond (eqb s.first first) ss (s ∷ ss)

-- While a segment is made, up to so many bytes of it are there.
abbrev pub making : ℕ → State → State
making n s = record s { spare = n }

abbrev pub with_segment : ℕ → List ℕ → State → State
with_segment first bytes s = record s { segments = whole_segment first bytes ∷ but_named first s.segments; spare = 0 }

abbrev pub maybe_segment : ℕ → List ℕ → State → State
maybe_segment first bytes s = record s { added = Some (whole_segment first bytes) }

-- A segment was added, whole. If there was no room it was not. If it failed it is there or not.
abbrev pub IsAdded : ℕ → List ℕ → Result (Unit {0}) FolderFault → State → State → Type 0
IsAdded first bytes (Ok x) old new = new ≡ with_segment first bytes old
IsAdded first bytes (Err fault.Full) old new = (new ≡ old) ⊎ (new ≡ making (length bytes) old)
IsAdded first bytes (Err fault.Failed) old new = new ≡ maybe_segment first bytes (making (length bytes) old)

-- The floor is raised. If that failed it is raised or not.
abbrev pub IsRaised : ℕ → Result (Unit {0}) FolderFault → State → State → Type 0
IsRaised n (Ok x) old new = new ≡ record old { floor = max n old.floor; raised = max n old.raised }
IsRaised n (Err f) old new = new ≡ record old { raised = max n old.raised }

-- The oldest segment is removed. If that failed it is there or not.
abbrev pub IsRemoved : Result (Unit {0}) FolderFault → State → State → Type 0
IsRemoved (Ok x) old new = (front : List Segment) (s : Segment) → old.segments ≡ front ++ s ∷ [] → new ≡ record old { segments = front }
IsRemoved (Err f) old new = (front : List Segment) (s : Segment) → old.segments ≡ front ++ s ∷ [] → new ≡ record old { segments = front; removed = s ∷ old.removed }

-- What a crash leaves. ------------------------------------------------------------------------------------------------

-- a file of a segment, and what is in the folder
pub record File : Type 0 where
  pub first : ℕ
  pub bytes : List ℕ

pub record Left : Type 0 where
  pub files : List File
  pub floor : ℕ
  pub spare : ℕ

-- the secret that is in the head of a segment
abbrev pub secret_in : List ℕ → List ℕ
secret_in bytes = take 16 (drop 24 bytes)

-- What a crash leaves of bytes that were not synced: no more of them than there were, anything else; and by no chance a whole batch, but the one that they begin with.
pub record IsTorn (secret tail torn : List ℕ) : Type 0 where
  pub short : length torn ≤ length tail
  pub honest : (b : Batch) → BeginsBatch secret torn b.head b.body → BeginsBatch secret tail b.head b.body

pub record IsTornTo (s : Segment) (f : File) : Type 0 where
  pub first : f.first ≡ s.first
  pub torn : List ℕ
  pub is : IsTorn (secret_in s.kept) s.tail torn
  pub whole : f.bytes ≡ s.kept ++ torn

-- each segment that is there
abbrev pub AreTornTo : List Segment → List File → Type 0
AreTornTo [] [] = Unit {0}
AreTornTo (s ∷ ss) (f ∷ fs) = IsTornTo s f × AreTornTo ss fs
AreTornTo _ _ = ⊥

-- some of those that may be there or not, cut to any length
pub data AreSomeOf : List Segment → List File → Type 0 where
  End : AreSomeOf [] []
  Gone : {s : Segment} {ss : List Segment} {fs : List File} → AreSomeOf ss fs → AreSomeOf (s ∷ ss) fs
  There : {s : Segment} {ss : List Segment} {fs : List File} (f : File) → f.first ≡ s.first → length f.bytes ≤ length (content s) → AreSomeOf ss fs → AreSomeOf (s ∷ ss) (f ∷ fs)

-- whether the one that was added is there
abbrev pub with_added : Option Segment → Bool → List Segment → List Segment
with_added (Some s) true ss = s ∷ but_named s.first ss
with_added _ _ ss = ss

-- What is being made has its name, or is there besides.
abbrev pub spare_left : Option Segment → Bool → ℕ → ℕ
spare_left (Some s) true n = 0
spare_left _ _ n = n

-- A crash may leave this.
pub record IsLeft (s : State) (c : Left) : Type 0 where
  pub added : Bool
  pub there : List File
  pub again : List File
  pub segments : AreTornTo (with_added s.added added s.segments) there
  pub removed : AreSomeOf s.removed again
  pub files : c.files ≡ there ++ again
  pub floor : (s.floor ≤ c.floor) × (c.floor ≤ s.raised)
  pub spare : c.spare ≤ spare_left s.added added s.spare

-- how many bytes that is
abbrev pub size : Left → ℕ
size c = sum_by (λ f. length f.bytes) c.files + c.spare

-- The history of a folder. --------------------------------------------------------------------------------------------

-- Each state that it has had, the newest first. Of a real folder none is known, and nothing is said.
abbrev pub History : Type 0
History = Option (List State)

-- It has gone from one state to another, which are as `R` says, and through these between them.
abbrev pub Goes : (State → State → Type 0) → History → History → Type 0
Goes R (Some (s ∷ past)) new = (t : State) × (new ≡ Some (t ∷ s ∷ past)) × R s t
Goes R (Some []) new = ⊥
Goes R None new = new ≡ None

-- the same, with one state between
abbrev pub GoesBy : (State → State) → (State → State → Type 0) → History → History → Type 0
GoesBy between R (Some (s ∷ past)) new = (t : State) × (new ≡ Some (t ∷ between s ∷ s ∷ past)) × R s t
GoesBy between R (Some []) new = ⊥
GoesBy between R None new = new ≡ None

-- What is so of the state that it has, and of each that it has had since.
abbrev pub Now : (State → Type 0) → History → Type 0
Now P (Some (s ∷ past)) = P s
Now P (Some []) = ⊥
Now P None = Unit {0}

abbrev pub All : (State → Type 0) → List State → Type 0
All P [] = Unit {0}
All P (s ∷ ss) = P s × All P ss

abbrev pub Since : (State → Type 0) → History → History → Type 0
Since P (Some past) new = (more : List State) × (new ≡ Some (more ++ past)) × All P more
Since P None new = new ≡ None

-- Nothing was asked of it that could change it: its history is known, and as it was.
abbrev pub IsUnasked : History → History → Type 0
IsUnasked old new = (s : State) × (past : List State) × (old ≡ Some (s ∷ past)) × (new ≡ old)

-- How many bytes a crash may leave at most.
abbrev pub lengths : List Segment → ℕ
lengths [] = 0
lengths (s ∷ ss) = length (content s) + lengths ss

abbrev pub added_length : Option Segment → ℕ
added_length (Some s) = length (content s)
added_length None = 0

abbrev pub stored : State → ℕ
stored s = lengths s.segments + added_length s.added + lengths s.removed

abbrev pub most : State → ℕ
most s = stored s + s.spare
