-- What a marked reader or writer shows.
use Rattle.std.specs.Prelude.{ℕ, ◌+◌, ◌++◌, ◌≡◌, ◌==◌, ◌||◌, Bool, List, [], Option, if◌then◌else◌}
use Rattle.std.specs.Io.KnownBytes.{Appends}
use Rattle.amqp_frame.specs.declared.device.Device.{Device}
use Rattle.amqp_frame.specs.declared.device.Direct.{Direct}

-- the reader or writer itself
abbrev pub direct_inner : {T : Type 0} → Direct T → T
direct_inner d = d.inner

module _ {T : Type 0} where
  -- the reader or writer itself
  abbrev pub device_inner : Device T → T
  device_inner d = d.inner

  -- it failed
  abbrev pub has_failed : Device T → Bool
  has_failed d = d.failed

  -- its reader had no bytes left, or no read was left to ask
  abbrev pub has_ended : Device T → Bool
  has_ended d = d.ended

  -- it was flushed, and nothing was written since
  abbrev pub is_flushed : Device T → Bool
  is_flushed d = d.flushed

  -- how many reads it may still ask of the reader
  abbrev pub reads_left : Device T → ℕ
  reads_left d = d.reads_left

  -- the bytes that its reader has at hand; none if it is asked nothing any more
  abbrev pub device_hand : (T → List ℕ) → Device T → List ℕ
  device_hand hand d = if d.failed || d.ended || (d.reads_left == 0) then [] else hand d.inner

  -- a number that falls with each read into a buffer with room, until the reader has ended
  abbrev pub reads_ahead : Device T → ℕ
  reads_ahead d = if d.ended then 0 else d.reads_left + 1

-- a front of the bytes was appended to what was held
pub record AppendsFront (held now : Option (List ℕ)) (bytes : List ℕ) : Type 0 where
  pub front : List ℕ
  pub behind : List ℕ
  pub written : Appends held now front
  pub is : bytes ≡ front ++ behind
