-- Records that wait for the sink, and when the answers to them may be sent.
use Rattle.std.specs.Prelude.{◌≡◌, ◌≢◌, ◌++◌, ◌-◌, ◌==◌, ◌&&◌, nat_lt, not, ℕ, Bool, true, false, List, [], Option, length, drop}
use Rattle.std.specs.Io.KnownBytes.{Appends}
use Rattle.amqp_records.specs.Blocks.{Block, BlocksState, AreBlocks, with_records}
use Rattle.amqp_endpoint.specs.Steps.{EndpointState}
use Rattle.amqp_hub.specs.declared.keeper.Origin.{Origin}
use Rattle.amqp_hub.specs.declared.keeper.Progress.{Progress}
use Rattle.amqp_hub.specs.declared.keeper.Progress.TheVariants as progress

-- what the sink holds, if that is known; the blocks that wait, and how many of their bytes were written; whether the sink was asked to write or to flush since it was
-- synced last; whether the sink has failed; whether what was put counts as taken only once it is on the disk
pub record OutletState : Type 0 where
  pub sink : Option (List ℕ)
  pub blocks : BlocksState
  pub written : ℕ
  pub is_fresh : Bool
  pub has_failed : Bool
  pub syncs : Bool

-- the bytes of blocks that are still to be written
abbrev pub waiting : OutletState → List ℕ
waiting s = drop s.written s.blocks.bytes

-- What went to the sink, and then what waits now, is what waited before.
abbrev pub WritesOn : OutletState → OutletState → Type 0
WritesOn old new = (went : List ℕ) × Appends old.sink new.sink went × (waiting old ≡ went ++ waiting new)

-- no block waits
abbrev pub is_empty : OutletState → Bool
is_empty s = (length s.blocks.bytes == 0) && (s.written == 0)

-- Each record that came is written, flushed and, if that is asked for, on the disk: so its sender may hear of it.
abbrev pub is_settled : OutletState → Bool
is_settled s = is_empty s && (not (s.syncs && s.is_fresh) && not s.has_failed)

-- how many bytes of records wait before they are written, even in the middle of a turn
abbrev pub waiting_most : ℕ
waiting_most = 262144

-- it takes a record: no block has begun to be written, not too much waits, and the sink has not failed
abbrev pub is_roomy : OutletState → Bool
is_roomy s = (s.written == 0) && (not s.has_failed && nat_lt (length s.blocks.bytes - s.written) waiting_most)

-- the record of a connection is in the blocks that wait, whatever its endpoint is, and nothing else changed
pub record Accepts (old : OutletState) (origin : Origin) (endpoint : EndpointState) (bytes : List ℕ) (new : OutletState) : Type 0 where
  pub put : (blocks : List Block) → AreBlocks old.blocks blocks → bytes ≢ [] → AreBlocks new.blocks (with_records (record { number = origin.number; records = bytes }) blocks)
  pub rest : new ≡ record old { blocks = new.blocks }

-- what holds if all that waited was written
abbrev pub WhereOut : Progress → Type 0 → Type 0
WhereOut progress.Out P = P
WhereOut progress.Stuck P = Unit {0}
WhereOut progress.Failed P = Unit {0}

-- what holds if the sink takes nothing now
abbrev pub WhereStuck : Progress → Type 0 → Type 0
WhereStuck progress.Out P = Unit {0}
WhereStuck progress.Stuck P = P
WhereStuck progress.Failed P = Unit {0}

-- it has failed exactly if it says so
abbrev pub has_failed_by : Progress → Bool
has_failed_by progress.Out = false
has_failed_by progress.Stuck = false
has_failed_by progress.Failed = true

-- It was asked to write, flush and, if that is asked for, sync all. Once it has failed nothing changes. What went to the sink, and then what waits, is what waited. If the sink
-- takes nothing now the blocks stay.
pub record Settles (old : OutletState) (p : Progress) (new : OutletState) : Type 0 where
  pub stays : old.has_failed ≡ true → (p ≡ progress.Failed) × (new ≡ old)
  pub went : WritesOn old new
  pub out : WhereOut p (is_settled new ≡ true)
  pub stuck : WhereStuck p (new.blocks ≡ old.blocks)
  pub failed : new.has_failed ≡ has_failed_by p
  pub syncs : new.syncs ≡ old.syncs

-- It was asked to make room for a record, and wrote and flushed what waits if that was much.
pub record MakesRoom (old : OutletState) (p : Progress) (new : OutletState) : Type 0 where
  pub stays : old.has_failed ≡ true → (p ≡ progress.Failed) × (new ≡ old)
  pub went : WritesOn old new
  pub out : WhereOut p (is_roomy new ≡ true)
  pub stuck : WhereStuck p (new.blocks ≡ old.blocks)
  pub failed : new.has_failed ≡ has_failed_by p
  pub syncs : new.syncs ≡ old.syncs
