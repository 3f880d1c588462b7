-- The head of a segment, and of a batch.
use Rattle.std.specs.Prelude.{◌≡◌, ℕ, ◌^◌, ◌<◌, List, [], ◌∷◌, ◌++◌, length}
use Rattle.std.specs.Int.{w32, w64, to_be_bytes}
use Rattle.amqp_spool.specs.declared.head.Head.{Head}
use Rattle.amqp_spool.specs.declared.batch_head.BatchHead.{BatchHead}
use Rattle.amqp_spool.specs.Sums.{sum_of}

-- a head that there may be
pub record IsHead (h : Head) : Type 0 where
  pub spool : length h.spool ≡ 16
  pub secret : length h.secret ≡ 16
  pub first : h.first < 2 ^ 64
  pub before : h.before < 2 ^ 64
  pub counted : h.counted < 2 ^ 64
  pub life : h.life < 2 ^ 64

-- how a segment begins
abbrev pub magic : List ℕ
magic = 0x61 ∷ 0x6d ∷ 0x71 ∷ 0x70 ∷ 0x73 ∷ 0x70 ∷ 0x31 ∷ 0x0a ∷ []

-- What a segment says of itself: the spool, its secret, its first number, that of the segment before and how many of its bytes count, and the life of the gateway. Numbers have 8 bytes, the highest
-- first.
unfoldable pub head_front : Head → List ℕ
head_front h = magic ++ h.spool ++ h.secret ++ to_be_bytes w64 h.first ++ to_be_bytes w64 h.before ++ to_be_bytes w64 h.counted ++ to_be_bytes w64 h.life

-- and the sum of all this
unfoldable pub head_text : Head → List ℕ
head_text h = head_front h ++ to_be_bytes w64 (sum_of h.secret (head_front h))

-- What a batch says of itself: the size of its body and how many records that has, in 4 bytes each, the number of the first, and when they arrived, in milliseconds since 1970.
unfoldable pub batch_front : BatchHead → List ℕ
batch_front h = to_be_bytes w32 h.size ++ to_be_bytes w32 h.count ++ to_be_bytes w64 h.first ++ to_be_bytes w64 h.arrived

-- and the sum of this and of its body
unfoldable pub batch_head : List ℕ → BatchHead → List ℕ → List ℕ
batch_head secret h body = batch_front h ++ to_be_bytes w64 (sum_of secret (batch_front h ++ body))

-- A batch of this body that there may be: its head has the size of the body.
pub record IsBatch (h : BatchHead) (body : List ℕ) : Type 0 where
  pub size : h.size ≡ length body
  pub small : h.size < 2 ^ 32
  pub count : h.count < 2 ^ 32
  pub first : h.first < 2 ^ 64
  pub arrived : h.arrived < 2 ^ 64

abbrev pub batch_text : List ℕ → BatchHead → List ℕ → List ℕ
batch_text secret h body = batch_head secret h body ++ body

-- a whole batch, and other bytes after it
pub record BeginsBatch (secret bytes : List ℕ) (h : BatchHead) (body : List ℕ) : Type 0 where
  pub is : IsBatch h body
  pub rest : List ℕ
  pub whole : bytes ≡ batch_text secret h body ++ rest
