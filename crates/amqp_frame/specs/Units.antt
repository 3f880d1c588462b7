-- A stream read as units: its header, its frames, and the fault that ends it. [2.2, 2.3]
use Rattle.std.specs.Prelude.{◌≡◌, ℕ, ◌*◌, ◌<◌, ◌≤◌, ◌⊎◌, List, [], ◌∷◌, ◌++◌, length, drop, slice_index, if◌then◌else◌}
use Rattle.std.specs.List.{flat_map}
use Rattle.std.specs.Str.{bytes_eq}
use Rattle.byteorder.specs.Endian.{big_number}
use Rattle.amqp_frame.specs.declared.units.TheConstants.{HEADER}
use Rattle.amqp_frame.specs.declared.units.FrameFault.{FrameFault}
use Rattle.amqp_frame.specs.declared.units.FrameFault.TheVariants.{TooSmall, TooLarge, BadOffset, BadType}
use Rattle.amqp_frame.specs.declared.units.Stage.{Stage}
use Rattle.amqp_frame.specs.declared.units.Stage.TheVariants.{Header, Frames, Refused, Faulty}

-- SIZE, the whole frame's length [2.3.1]
unfoldable pub size_of : List ℕ → ℕ
size_of bytes = big_number 4 bytes

-- DOFF, where the body begins, in words of four bytes [2.3.1]
abbrev pub offset_of : List ℕ → ℕ
offset_of bytes = slice_index bytes 4

-- TYPE, which is 0 for an AMQP frame [2.3.1]
abbrev pub type_of : List ℕ → ℕ
type_of bytes = slice_index bytes 5

-- the channel, which the two last bytes of an AMQP frame's header give [2.3.1]
unfoldable pub channel_of : List ℕ → ℕ
channel_of bytes = big_number 2 (drop 6 bytes)

-- the body, which follows the extended header [2.3.1]
abbrev pub body_of : List ℕ → List ℕ
body_of bytes = drop (4 * offset_of bytes) bytes

-- SIZE is at least 8, a frame header, and at most what is accepted [2.3.1]
pub record IsSized (max : ℕ) (bytes : List ℕ) : Type 0 where
  pub least : 8 ≤ size_of bytes
  pub most : size_of bytes ≤ max

-- DOFF is at least 2, and the body begins within the frame [2.3.1]
pub record IsPlaced (bytes : List ℕ) : Type 0 where
  pub least : 2 ≤ offset_of bytes
  pub within : 4 * offset_of bytes ≤ size_of bytes

-- a whole AMQP frame [2.3.1]
pub record IsFrame (max : ℕ) (bytes : List ℕ) : Type 0 where
  pub whole : length bytes ≡ size_of bytes
  pub sized : IsSized max bytes
  pub placed : IsPlaced bytes
  pub typed : type_of bytes ≡ 0

-- The bytes of a frame header up to the one that shows this fault: a SIZE below 8 or too large, a DOFF below 2 or beyond the frame, a TYPE other than 0.
-- [2.3.1]
abbrev pub IsFault : ℕ → FrameFault → List ℕ → Type 0
IsFault max TooSmall bytes = (length bytes ≡ 4) × (size_of bytes < 8)
IsFault max TooLarge bytes = (length bytes ≡ 4) × (max < size_of bytes)
IsFault max BadOffset bytes = (length bytes ≡ 8) × IsSized max bytes × ((offset_of bytes < 2) ⊎ (size_of bytes < 4 * offset_of bytes))
IsFault max BadType bytes = (length bytes ≡ 8) × IsSized max bytes × IsPlaced bytes × (0 < type_of bytes)

-- the parts of a stream
pub data StreamUnit : Type 0 where
  HeaderUnit : List ℕ → StreamUnit
  FrameUnit : List ℕ → StreamUnit
  FaultUnit : FrameFault → List ℕ → StreamUnit

-- the bytes of a unit
abbrev pub bytes_of : StreamUnit → List ℕ
bytes_of (HeaderUnit bytes) = bytes
bytes_of (FrameUnit bytes) = bytes
bytes_of (FaultUnit fault bytes) = bytes

-- A unit that may come at this stage. After a refused header or a fault none may.
abbrev pub IsUnit : ℕ → Stage → StreamUnit → Type 0
IsUnit max Header (HeaderUnit bytes) = length bytes ≡ 8
IsUnit max Header (FrameUnit bytes) = ⊥
IsUnit max Header (FaultUnit fault bytes) = ⊥
IsUnit max Frames (HeaderUnit bytes) = ⊥
IsUnit max Frames (FrameUnit bytes) = IsFrame max bytes
IsUnit max Frames (FaultUnit fault bytes) = IsFault max fault bytes
IsUnit max Refused u = ⊥
IsUnit max (Faulty fault) u = ⊥

-- what is due after a unit
abbrev pub due_after : StreamUnit → Stage
due_after (HeaderUnit bytes) = if bytes_eq bytes HEADER then Frames else Refused
due_after (FrameUnit bytes) = Frames
due_after (FaultUnit fault bytes) = Faulty fault

-- what is due after these units, if this was due before them
abbrev pub due_behind : Stage → List StreamUnit → Stage
due_behind stage [] = stage
due_behind stage (u ∷ us) = due_behind (due_after u) us

-- each is a unit that may come where it comes
abbrev pub AreUnits : ℕ → Stage → List StreamUnit → Type 0
AreUnits max stage [] = Unit {0}
AreUnits max stage (u ∷ us) = IsUnit max stage u × AreUnits max (due_after u) us

-- no unit begins these bytes
pub record IsRest (max : ℕ) (stage : Stage) (bytes : List ℕ) : Type 0 where
  pub none : (u : StreamUnit) (more : List ℕ) → IsUnit max stage u → bytes ≡ bytes_of u ++ more → ⊥

-- The stream is these units joined, and then the rest, which no unit begins. After a refused header or a fault the rest is whatever follows.
pub record IsReading (max : ℕ) (stage : Stage) (stream : List ℕ) (us : List StreamUnit) (rest : List ℕ) : Type 0 where
  pub joined : stream ≡ flat_map bytes_of us ++ rest
  pub each : AreUnits max stage us
  pub behind : IsRest max (due_behind stage us) rest

-- the units of a whole stream, from its header on
abbrev pub Units : ℕ → List ℕ → List StreamUnit → List ℕ → Type 0
Units max stream us rest = IsReading max Header stream us rest
