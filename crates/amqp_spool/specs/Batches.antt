-- The batches of a segment, one after the other.
use Rattle.std.specs.Prelude.{◌≡◌, ℕ, ◌+◌, ◌^◌, ◌<◌, List, [], ◌∷◌, ◌++◌, length, sum_by}
use Rattle.std.specs.List.{flat_map}
use Rattle.amqp_spool.specs.declared.batch_head.BatchHead.{BatchHead}
use Rattle.amqp_spool.specs.declared.scanning.Scanned.{Scanned}
use Rattle.amqp_spool.specs.Heads.{IsBatch, BeginsBatch, batch_text}

pub record Batch : Type 0 where
  pub head : BatchHead
  pub body : List ℕ

-- It is whole, and its records have the numbers from this one on.
pub record Follows (number : ℕ) (b : Batch) : Type 0 where
  pub is : IsBatch b.head b.body
  pub first : b.head.first ≡ number
  pub some : 0 < b.head.count
  pub within : number + b.head.count < 2 ^ 64

-- each follows the one before
abbrev pub Follow : ℕ → List Batch → Type 0
Follow number [] = Unit {0}
Follow number (b ∷ batches) = Follows number b × Follow (number + b.head.count) batches

-- their bytes
abbrev pub texts : List ℕ → List Batch → List ℕ
texts secret batches = flat_map (λ b. batch_text secret b.head b.body) batches

-- how many records they have
abbrev pub records : List Batch → ℕ
records batches = sum_by (λ b. b.head.count) batches

-- No whole batch of records from this number on is there.
abbrev pub EndsAt : List ℕ → ℕ → List ℕ → Type 0
EndsAt secret number bytes = (b : Batch) → Follows number b → BeginsBatch secret bytes b.head b.body → ⊥

-- So many bytes of a segment after its head are batches, one after the other, and the record after theirs has this number.
pub record IsThrough (secret : List ℕ) (first : ℕ) (bytes : List ℕ) (s : Scanned) : Type 0 where
  pub batches : List Batch
  pub follow : Follow first batches
  pub rest : List ℕ
  pub whole : bytes ≡ texts secret batches ++ rest
  pub end : s.end ≡ length (texts secret batches)
  pub next : s.next ≡ first + records batches

-- and no other follows
pub record IsScanned (secret : List ℕ) (first : ℕ) (bytes : List ℕ) (s : Scanned) : Type 0 where
  pub through : IsThrough secret first bytes s
  pub ends : EndsAt secret s.next through.rest
