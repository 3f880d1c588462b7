-- The floor of a spool.
use Rattle.std.specs.Prelude.{◌≡◌, ℕ, ◌^◌, ◌<◌, List, ◌++◌, length}
use Rattle.std.specs.Int.{w64, to_be_bytes}
use Rattle.amqp_spool.specs.declared.floor.Floor.{Floor}
use Rattle.amqp_spool.specs.Sums.{sum_of}

-- a floor that there may be
pub record IsFloor (f : Floor) : Type 0 where
  pub spool : length f.spool ≡ 16
  pub number : f.number < 2 ^ 64
  pub dropped : f.dropped < 2 ^ 64

-- The spool, the number up to which segments may be missing, and the last number that was dropped unread. Numbers have 8 bytes, the highest first.
unfoldable pub floor_front : Floor → List ℕ
floor_front f = f.spool ++ to_be_bytes w64 f.number ++ to_be_bytes w64 f.dropped

-- and the sum of all this
unfoldable pub floor_text : Floor → List ℕ
floor_text f = floor_front f ++ to_be_bytes w64 (sum_of f.spool (floor_front f))
