-- What is reported of a stream: an entry for each of its units, up to the first fault. [2.2, 2.3]
use Rattle.std.specs.Prelude.{◌≡◌, ℕ, ◌+◌, ◌*◌, ◌==◌, Bool, true, false, List, [], ◌∷◌, ◌++◌, length, Option, Some, None, is_some, Ok, Err, if◌then◌else◌}
use Rattle.std.specs.List.{flat_map}
use Rattle.std.specs.Str.{bytes_eq}
use Rattle.amqp_frame.specs.declared.units.TheConstants.{HEADER}
use Rattle.amqp_frame.specs.Units.{StreamUnit, HeaderUnit, FrameUnit, FaultUnit, Units, bytes_of, offset_of, channel_of, body_of}
use Rattle.amqp_perform.specs.BodyReading.{body_at}
use Rattle.amqp_types.specs.Trees.{Tree}
use Rattle.amqp_types.specs.Reading.{Read}
use Rattle.amqp_types.specs.Decoding.{decoded}
use Rattle.amqp_types.specs.Skipping.{rest_of}
use Rattle.amqp_types.specs.Places.{place_of}
use Rattle.amqp_dump.specs.declared.scan.TheConstants.{MAX_FRAME, LIMITS}
use Rattle.amqp_dump.specs.declared.scanned.Scanned.{Scanned}
use Rattle.amqp_dump.specs.declared.scanned.Scanned.TheVariants as scanned
use Rattle.amqp_dump.specs.declared.scanned.StreamFault.{StreamFault}
use Rattle.amqp_dump.specs.declared.scanned.StreamFault.TheVariants as stream

-- What is reported at a place: the header; a frame with its place, size, channel, value, whether it is a valid performative, and
-- its payload's length; or a fault there.
pub data Entry : Type 0 where
  HeaderEntry : Entry
  FrameEntry : ℕ → ℕ → ℕ → Option Tree → Bool → ℕ → Entry
  FaultEntry : ℕ → StreamFault → Entry

-- what was read, if a value was
abbrev pub found : Read Tree → Option Tree
found (Ok read) = Some read.0
found (Err fault) = None

-- a body begins with a value within the limits
abbrev pub PassedCheck : List ℕ → Type 0
PassedCheck body = (rest : List ℕ) × (rest_of (decoded LIMITS.depth LIMITS.nodes body) ≡ Ok rest)

-- the value that a body begins with
abbrev pub value_in : List ℕ → Option Tree
value_in body = if length body == 0 then None else found (decoded LIMITS.depth LIMITS.nodes body)

-- the entry that a scanned unit stands for
abbrev pub entry_of : Scanned → Entry
entry_of scanned.Header = HeaderEntry
entry_of (scanned.Frame frame) = FrameEntry frame.place frame.size frame.channel (value_in frame.body.now) frame.is_performative frame.payload
entry_of (scanned.Fault place fault) = FaultEntry place fault

-- the entries of what was reported at a place, if anything was
abbrev pub told_entries : Option Scanned → List Entry
told_entries None = []
told_entries (Some item) = entry_of item ∷ []

-- the entry of a frame by what is read from its body, which begins at `start` in the frame: the value, whether the body is that of
-- a performative, and the payload after it; or the fault there
abbrev pub read_entry : (place size channel start : ℕ) → Bool → Read Tree → Entry
read_entry place size channel start valid (Ok read) = FrameEntry place size channel (Some read.0) valid (length read.1)
read_entry place size channel start valid (Err fault) = FaultEntry (place + start + place_of fault) (stream.Value fault)

-- the entry of a frame by its body: an empty body has no value
abbrev pub body_entry : (place size channel start : ℕ) → List ℕ → Entry
body_entry place size channel start body = if length body == 0 then FrameEntry place size channel None false 0 else read_entry place size channel start (is_some (body_at body))
    (decoded LIMITS.depth LIMITS.nodes body)

-- the entry of the eight bytes in the header's place
abbrev pub header_entry : ℕ → List ℕ → Entry
header_entry place bytes = if bytes_eq bytes HEADER then HeaderEntry else FaultEntry place stream.Header

-- the entry of a unit at a place
abbrev pub unit_entry : ℕ → StreamUnit → Entry
unit_entry place (HeaderUnit bytes) = header_entry place bytes
unit_entry place (FrameUnit bytes) = body_entry place (length bytes) (channel_of bytes) (4 * offset_of bytes) (body_of bytes)
unit_entry place (FaultUnit fault bytes) = FaultEntry place (stream.Frame fault)

-- what is reported of a rest at a place, in which no unit is whole: a stream has to have a header, and to end after a unit
abbrev pub rest_entries : ℕ → List ℕ → List Entry
rest_entries place rest =
    if place == 0 then FaultEntry 0 stream.Header ∷ [] else if length rest == 0 then [] else FaultEntry place stream.Cut ∷ []

-- the entries of these units from a place on
abbrev pub whole_entries : ℕ → List StreamUnit → List Entry
whole_entries place [] = []
whole_entries place (u ∷ us) = unit_entry place u ∷ whole_entries (place + length (bytes_of u)) us

-- the entries of a stream's units, and of the rest after them
abbrev pub unit_entries : List StreamUnit → List ℕ → List Entry
unit_entries us rest = whole_entries 0 us ++ rest_entries (length (flat_map bytes_of us)) rest

abbrev pub is_fault : Entry → Bool
is_fault HeaderEntry = false
is_fault (FrameEntry place size channel value valid payload) = false
is_fault (FaultEntry place fault) = true

-- the entries up to the first fault
abbrev pub until_fault : List Entry → List Entry
until_fault [] = []
until_fault (entry ∷ entries) = entry ∷ (if is_fault entry then [] else until_fault entries)

-- this is reported of the stream: of its units in order, and of its end, up to the first fault
pub record TellsOf (stream : List ℕ) (entries : List Entry) : Type 0 where
  pub units : List StreamUnit
  pub rest : List ℕ
  pub reading : Units MAX_FRAME stream units rest
  pub told : entries ≡ until_fault (unit_entries units rest)

-- this is reported of the stream that begins with these bytes, whatever follows them
abbrev pub Tells : List ℕ → List Entry → Type 0
Tells bytes entries = (more : List ℕ) → TellsOf (bytes ++ more) entries

-- this is reported first of the stream that begins with these bytes, whatever follows them
abbrev pub TellsFirst : List ℕ → List Entry → Type 0
TellsFirst bytes entries = (more : List ℕ) → (others : List Entry) × TellsOf (bytes ++ more) (entries ++ others)
