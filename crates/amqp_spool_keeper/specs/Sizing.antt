-- The sizes of a spool within a bound.
use Rattle.std.specs.Prelude.{◌≡◌, ◌⊎◌, ℕ, ◌+◌, ◌-◌, ◌*◌, ◌^◌, ◌<◌, ◌≤◌}
use Rattle.amqp_spool_keeper.specs.declared.sizes.Sizes.{Sizes}
use Rattle.amqp_spool_keeper.specs.declared.sizes.SizeFault.{SizeFault}
use Rattle.amqp_spool_keeper.specs.declared.sizes.SizeFault.TheVariants as unfit

-- All that the files of a spool may have is within the bound: its segments, one more that is being made, the reserve of a full disk, and 65,536 bytes of small files. A record of the longest message, which has at most 2^30 bytes, fits with its
-- introduction into a batch, and a batch into a segment. There is room for the credit and for two segments besides.
pub record AreSizes (bytes asked message : ℕ) (s : Sizes) : Type 0 where
  pub bound : s.limit + s.segment + (s.batch + 112 + 32768) + 65536 ≤ bytes
  pub segment : s.segment ≡ asked
  pub longest : message ≤ 2 ^ 30 → message + 1923 ≤ s.room
  pub room : s.room ≤ s.batch
  pub batch : s.batch + 112 ≤ s.segment
  pub credit : 2 * s.segment + s.reserve ≤ s.limit

-- The number that would do is higher, or there is none.
abbrev pub IsUnfit : ℕ → ℕ → SizeFault → Type 0
IsUnfit bytes segment (unfit.Segment least) = segment < least
IsUnfit bytes segment (unfit.Bytes least) = (bytes < least) ⊎ (least ≡ 2 ^ 64 - 1)
