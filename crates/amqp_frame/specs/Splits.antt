-- What a splitter holds, what it returns, and which units went by before.
use Rattle.std.specs.Prelude.{◌≡◌, ℕ, ◌+◌, ◌-◌, ◌<◌, ◌≤◌, ◌⊎◌, nat_lt, if◌then◌else◌, List, [], ◌++◌, length, take, Option, Some, None, Result, Ok, Err}
use Rattle.std.specs.List.{flat_map}
use Rattle.amqp_frame.specs.Units.{StreamUnit, FrameUnit, FaultUnit, bytes_of, size_of, IsUnit, IsFrame, IsRest, AreUnits, due_after, due_behind, channel_of, body_of}
use Rattle.amqp_frame.specs.declared.units.Frame.{Frame}
use Rattle.amqp_frame.specs.declared.units.FrameFault.{FrameFault}
use Rattle.amqp_frame.specs.declared.units.Progress.{Progress}
use Rattle.amqp_frame.specs.declared.units.Progress.TheVariants.{Wants, Whole, Fails}
use Rattle.amqp_frame.specs.declared.units.Stage.{Stage}
use Rattle.amqp_frame.specs.declared.units.Stage.TheVariants.{Header, Frames, Refused, Faulty}

-- these bytes are this unit, and it may come at this stage
pub record Stands (max : ℕ) (stage : Stage) (bytes : List ℕ) (u : StreamUnit) : Type 0 where
  pub is : IsUnit max stage u
  pub whole : bytes ≡ bytes_of u

-- these bytes are some unit
pub record IsOne (max : ℕ) (stage : Stage) (bytes : List ℕ) : Type 0 where
  pub unit : StreamUnit
  pub stands : Stands max stage bytes unit

-- nothing is taken any more: a refused header or a fault went by
abbrev pub IsOver : Stage → Type 0
IsOver Header = ⊥
IsOver Frames = ⊥
IsOver Refused = Unit {0}
IsOver (Faulty fault) = Unit {0}

-- what came of the unit that is due: less than one, or one; nothing once the stream is over
abbrev pub IsHeld : ℕ → Stage → List ℕ → Type 0
IsHeld max Header bytes = IsRest max Header bytes ⊎ IsOne max Header bytes
IsHeld max Frames bytes = IsRest max Frames bytes ⊎ IsOne max Frames bytes
IsHeld max Refused bytes = bytes ≡ []
IsHeld max (Faulty fault) bytes = bytes ≡ []

-- If at most this many more bytes come, there is at most the unit that is due, and its size is within max.
pub record IsWanted (max : ℕ) (stage : Stage) (bytes : List ℕ) (wanted : ℕ) : Type 0 where
  pub fits : length bytes + wanted ≤ max
  pub held : (more : List ℕ) → length more ≤ wanted → IsHeld max stage (bytes ++ more)

-- How many bytes are asked for next if less than a frame came: what is left of SIZE's four, then of the eight of the frame's header, then of SIZE. [2.3.1]
abbrev pub frame_asks : List ℕ → ℕ
frame_asks bytes = if nat_lt (length bytes) 4 then 4 - length bytes else (if nat_lt (length bytes) 8 then 8 - length bytes else size_of bytes - length bytes)

-- how many bytes are asked for next of the unit that is due: of a header what is left of its eight [2.2]
abbrev pub asks : Stage → List ℕ → ℕ
asks Header bytes = 8 - length bytes
asks Frames bytes = frame_asks bytes
asks Refused bytes = 0
asks (Faulty fault) bytes = 0

-- how far a frame has come
abbrev pub IsProgress : ℕ → List ℕ → Progress → Type 0
IsProgress max bytes (Wants wanted) = (0 < wanted) × IsRest max Frames bytes × IsWanted max Frames bytes wanted × (wanted ≡ frame_asks bytes)
IsProgress max bytes Whole = IsUnit max Frames (FrameUnit bytes)
IsProgress max bytes (Fails fault) = IsUnit max Frames (FaultUnit fault bytes)

-- the size of the whole frame that begins these bytes; None if none does
abbrev pub IsWholeFront : ℕ → List ℕ → Option ℕ → Type 0
IsWholeFront max bytes None = (n : ℕ) → n ≤ length bytes → IsFrame max (take n bytes) → ⊥
IsWholeFront max bytes (Some size) = (size ≤ length bytes) × IsFrame max (take size bytes)

-- the size of the whole frame that begins the piece, if a frame is due and nothing of it is held
abbrev pub IsWholeIn : ℕ → Stage → List ℕ → List ℕ → Option ℕ → Type 0
IsWholeIn max stage held piece None = stage ≡ Frames → held ≡ [] → IsWholeFront max piece None
IsWholeIn max stage held piece (Some size) = (stage ≡ Frames) × (held ≡ []) × IsWholeFront max piece (Some size)

-- what is due once the unit that waits is dropped; None if none waits
abbrev pub IsNext : ℕ → Stage → List ℕ → Option Stage → Type 0
IsNext max stage bytes None = IsOne max stage bytes → ⊥
IsNext max stage bytes (Some next) = (u : StreamUnit) × Stands max stage bytes u × (next ≡ due_after u)

-- The state of a splitter: the largest frame accepted, what is due, and the bytes that came of it. `spare` is the buffer after them, which
-- means nothing, and `reach` is how many bytes of it were lent or filled before.
pub record SplitterState : Type 0 where
  pub limit : ℕ
  pub stage : Stage
  pub filled : List ℕ
  pub spare : List ℕ
  pub reach : ℕ

-- how far the frame has come, if one is due
abbrev pub IsJudged : ℕ → Stage → List ℕ → Progress → Type 0
IsJudged max Header bytes progress = Unit {0}
IsJudged max Frames bytes progress = IsProgress max bytes progress
IsJudged max Refused bytes progress = Unit {0}
IsJudged max (Faulty fault) bytes progress = Unit {0}

-- What holds of every splitter: it has room for the largest frame, holds at most a unit, and knows how far a frame has come.
pub record IsSound (max : ℕ) (stage : Stage) (bytes : List ℕ) (reserved : ℕ) (progress : Progress) : Type 0 where
  pub least : 8 ≤ max
  pub room : max ≤ reserved
  pub held : IsHeld max stage bytes
  pub judged : IsJudged max stage bytes progress

-- What a splitter holds once `count` bytes of a piece came after what it held.
pub record IsFilled (max : ℕ) (stage : Stage) (old piece : List ℕ) (count : ℕ) (new : List ℕ) (reserved : ℕ) (progress : Progress) : Type 0 where
  pub bound : count ≤ length piece
  pub bytes : new ≡ old ++ take count piece
  pub sound : IsSound max stage new reserved progress

-- this unit waits
abbrev pub Waits : SplitterState → StreamUnit → Type 0
Waits s u = Stands s.limit s.stage s.filled u

-- a unit waits, or nothing is taken any more
abbrev pub TakesNothing : SplitterState → Type 0
TakesNothing s = IsOne s.limit s.stage s.filled ⊎ IsOver s.stage

-- nothing differs, except perhaps the room after the filled bytes
pub record IsUnchanged (old new : SplitterState) : Type 0 where
  pub limit : new.limit ≡ old.limit
  pub stage : new.stage ≡ old.stage
  pub filled : new.filled ≡ old.filled

-- the buffer is empty, and this is due
pub record IsEmptied (old new : SplitterState) (due : Stage) : Type 0 where
  pub limit : new.limit ≡ old.limit
  pub stage : new.stage ≡ due
  pub filled : new.filled ≡ []

-- n bytes are asked for next: none if a unit waits
pub record AsksNext (max : ℕ) (stage : Stage) (bytes : List ℕ) (n : ℕ) : Type 0 where
  pub none : IsOne max stage bytes → n ≡ 0
  pub some : (IsOne max stage bytes → ⊥) → n ≡ asks stage bytes

-- the splitter asks for n bytes next
abbrev pub Asks : SplitterState → ℕ → Type 0
Asks s n = AsksNext s.limit s.stage s.filled n

-- n bytes may come next: none, or at most as many as are asked for
abbrev pub MayCome : SplitterState → ℕ → Type 0
MayCome s n = (n ≡ 0) ⊎ ((m : ℕ) × Asks s m × (n ≤ m))

-- What is taken of a piece: nothing if a unit waits or no more is taken; else all, or up to the end of the unit that is due. No byte is taken that a unit does not want.
pub record IsTaken (old new : SplitterState) (piece : List ℕ) (used : ℕ) : Type 0 where
  pub bound : used ≤ length piece
  pub limit : new.limit ≡ old.limit
  pub stage : new.stage ≡ old.stage
  pub filled : new.filled ≡ old.filled ++ take used piece
  pub all : used + 1 ≤ length piece → TakesNothing new
  pub full : TakesNothing old → used ≡ 0
  pub early : (k : ℕ) → k + 1 ≤ used → IsRest old.limit old.stage (old.filled ++ take k piece)

-- A whole frame of `size` bytes lies at the front of a piece. A splitter that takes and drops it is what it was: so the frame may be used where it lies.
pub record IsLent (s : SplitterState) (piece : List ℕ) (frame : Frame) (size : ℕ) : Type 0 where
  pub taken : IsTaken s (record s { filled = take size piece }) piece size
  pub waits : Waits (record s { filled = take size piece }) (FrameUnit (take size piece))
  pub goes : IsEmptied (record s { filled = take size piece }) s (due_after (FrameUnit (take size piece)))
  pub channel : frame.channel ≡ channel_of (take size piece)
  pub body : frame.body.now ≡ body_of (take size piece)

-- the frame that is lent, with its size; None if no frame is due, some of it is held, or it does not lie whole at the front
abbrev pub IsLentFront : SplitterState → List ℕ → Option (Frame × ℕ) → Type 0
IsLentFront s piece None = IsWholeIn s.limit s.stage s.filled piece None
IsLentFront s piece (Some lent) = IsLent s piece lent.0 lent.1

-- neither a frame nor a fault waits, and no fault went by
pub record HasNoFrame (s : SplitterState) : Type 0 where
  pub frames : (bytes : List ℕ) → Waits s (FrameUnit bytes) → ⊥
  pub faults : (fault : FrameFault) (bytes : List ℕ) → Waits s (FaultUnit fault bytes) → ⊥
  pub over : (fault : FrameFault) → s.stage ≡ Faulty fault → ⊥

-- the frame that waits, or the fault that waits or went by
abbrev pub IsFrameAnswer : SplitterState → Option (Result Frame FrameFault) → Type 0
IsFrameAnswer s None = HasNoFrame s
IsFrameAnswer s (Some (Ok frame)) =
    Waits s (FrameUnit s.filled) × (frame.channel ≡ channel_of s.filled) × (frame.body.now ≡ body_of s.filled)
IsFrameAnswer s (Some (Err fault)) = Waits s (FaultUnit fault s.filled) ⊎ ((s.stage ≡ Faulty fault) × (s.filled ≡ []))

-- of all bytes taken, these units went by, and the rest is in the buffer
pub record WentBy (s : SplitterState) (us : List StreamUnit) (taken : List ℕ) : Type 0 where
  pub joined : taken ≡ flat_map bytes_of us ++ s.filled
  pub each : AreUnits s.limit Header us
  pub due : s.stage ≡ due_behind Header us
