-- A file of blocks: what the records of many connections are written as, each in a block of its connection.
use Rattle.std.specs.Prelude.{◌≡◌, ℕ, ◌+◌, ◌^◌, ◌<◌, ◌≤◌, ◌==◌, ◌&&◌, ◌||◌, nat_lt, nat_le, if◌then◌else◌, Bool, List, [], ◌∷◌, ◌++◌, length, take, drop, Option, Some, None}
use Rattle.byteorder.specs.Endian.{big_bytes, big_number}
use Rattle.amqp_records.specs.declared.blocks.BlockFront.{BlockFront}
use Rattle.amqp_records.specs.declared.blocks.BlockFront.TheVariants as front
use Rattle.amqp_records.specs.declared.blocks.Last.{Last}
use Rattle.amqp_records.specs.Records.{said, AreRecords, joined, Holds}

-- What is written. ----------------------------------------------------------------------------------------------------

pub record Block : Type 0 where
  pub number : ℕ  -- of its connection
  pub records : List ℕ  -- the bytes of records, one after another

-- the number in 8 bytes, the length of the records in 4, and the records
abbrev pub block_text : Block → List ℕ
block_text b = big_bytes 8 b.number ++ (big_bytes 4 (length b.records) ++ b.records)

-- the bytes of blocks; the first of the list was written last
abbrev pub blocks_text : List Block → List ℕ
blocks_text [] = []
blocks_text (b ∷ older) = blocks_text older ++ block_text b

-- how many bytes the records of a block may have together; a longer record is a block of its own
abbrev pub block_most : ℕ
block_most = 262144

-- more records of a connection: they go into the last block if that is the connection's and has room, else into one more
abbrev pub on_top : Bool → Block → Block → List Block → List Block
on_top goes_on b last older = if goes_on then record { number = last.number; records = last.records ++ b.records } ∷ older else b ∷ last ∷ older

abbrev pub goes_on : Block → Block → Bool
goes_on b last = (last.number == b.number) && nat_le (length last.records + length b.records) block_most

abbrev pub with_records : Block → List Block → List Block
with_records b [] = b ∷ []
with_records b (last ∷ older) = on_top (goes_on b last) b last older

-- bytes in memory that are these blocks, and where the last one begins
pub record BlocksState : Type 0 where
  pub bytes : List ℕ
  pub last : Option Last

-- the head and the records of the last block end where the bytes end
abbrev pub IsRoomy : Option Last → ℕ → Type 0
IsRoomy None len = Unit {0}
IsRoomy (Some last) len = last.from + 12 + last.held ≡ len

abbrev pub AreBlocks : BlocksState → List Block → Type 0
AreBlocks s [] = (s.bytes ≡ []) × (s.last ≡ None)
AreBlocks s (b ∷ older) = (s.bytes ≡ blocks_text older ++ block_text b) × (s.last ≡ Some (record { number = b.number; from = length (blocks_text older); held = length b.records }))

-- What is read. -------------------------------------------------------------------------------------------------------

-- the number of the connection, and how many bytes of records follow the head
abbrev pub number_of : List ℕ → ℕ
number_of bytes = big_number 8 bytes

abbrev pub size_of : List ℕ → ℕ
size_of bytes = big_number 4 (drop 8 bytes)

-- a block may have `size` bytes of records, if a message has at most `limit` bytes
abbrev pub may_have : (limit size : ℕ) → Bool
may_have limit size = nat_le 18 size && (nat_le size block_most || nat_le size (18 + limit))

-- a block with `size` bytes of records may begin with a record whose head gives this length of its message, if a message has
-- at most `limit` bytes
abbrev pub may_begin : (limit size message : ℕ) → Bool
may_begin limit size message = nat_le message limit && (size == 18 + message || (nat_le (18 + message) size && nat_le size block_most))

-- What is at the front of these bytes, by the block's head and that of its first record alone.
abbrev pub head_front : ℕ → List ℕ → BlockFront
head_front limit bytes =
    if nat_lt (length bytes) 12 then front.Partial
    else if may_have limit (size_of bytes) then (
    if nat_lt (length bytes) 30 then front.Partial
    else if may_begin limit (size_of bytes) (said (drop 12 bytes)) then
    (if nat_lt (length bytes) (12 + size_of bytes) then front.Partial else front.Whole (size_of bytes))
    else front.NoBlock
    )
    else front.NoBlock

-- what holds of the size of a whole block
abbrev pub IfWhole : BlockFront → (ℕ → Type 0) → Type 0
IfWhole (front.Whole n) P = P n
IfWhole front.Partial P = Unit {0}
IfWhole front.NoBlock P = Unit {0}

-- a file may end so after its last block: with no byte more, or with fewer bytes than the block has that they begin
abbrev pub IsTorn : ℕ → List ℕ → Type 0
IsTorn limit rest = head_front limit rest ≡ front.Partial

-- bytes that are whole records, one after another
abbrev pub AllRecords : ℕ → List ℕ → Type 0
AllRecords limit bytes = (records : List (List ℕ)) × Holds limit bytes records []

-- a block in a file: a head, and records
pub record FileBlock : Type 0 where
  pub head : List ℕ
  pub records : List (List ℕ)

abbrev pub bytes_of : FileBlock → List ℕ
bytes_of b = b.head ++ joined b.records

-- it has one record, or more of at most `block_most` bytes together
abbrev pub AreFew : List (List ℕ) → Type 0
AreFew [] = ⊥
AreFew (r ∷ []) = Unit {0}
AreFew (r ∷ s ∷ records) = length (joined (r ∷ s ∷ records)) ≤ block_most

-- it is whole, if messages have at most `limit` bytes: its head says how many bytes of records follow
pub record IsBlock (limit : ℕ) (b : FileBlock) : Type 0 where
  pub headed : length b.head ≡ 12
  pub sized : size_of b.head ≡ length (joined b.records)
  pub each : AreRecords limit b.records
  pub few : AreFew b.records

abbrev pub AreWholeBlocks : ℕ → List FileBlock → Type 0
AreWholeBlocks limit [] = Unit {0}
AreWholeBlocks limit (b ∷ blocks) = IsBlock limit b × AreWholeBlocks limit blocks

-- the bytes of blocks, one after another
abbrev pub file_of : List FileBlock → List ℕ
file_of [] = []
file_of (b ∷ blocks) = bytes_of b ++ file_of blocks

-- these bytes are blocks, one after another, and a rest
pub record HoldsBlocks (limit : ℕ) (bytes : List ℕ) (blocks : List FileBlock) (rest : List ℕ) : Type 0 where
  pub each : AreWholeBlocks limit blocks
  pub is : bytes ≡ file_of blocks ++ rest

-- the bytes begin with no block
abbrev pub BeginsNoBlock : ℕ → List ℕ → Type 0
BeginsNoBlock limit rest = (b : FileBlock) (more : List ℕ) → IsBlock limit b → rest ≡ bytes_of b ++ more → ⊥

-- the bytes begin with a block that has `n` bytes of records
pub record BeginsBlock (limit : ℕ) (bytes : List ℕ) (n : ℕ) : Type 0 where
  pub block : FileBlock
  pub whole : IsBlock limit block
  pub sized : length (joined block.records) ≡ n
  pub is : bytes ≡ bytes_of block ++ drop (12 + n) bytes

-- the longest front of a file that is whole blocks has `n` bytes
pub record IsWholeTo (limit : ℕ) (bytes : List ℕ) (n : ℕ) : Type 0 where
  pub blocks : List FileBlock
  pub rest : List ℕ
  pub holds : HoldsBlocks limit bytes blocks rest
  pub long : n ≡ length (file_of blocks)
  pub longest : (others : List FileBlock) (other : List ℕ) → HoldsBlocks limit bytes others other → length (file_of others) ≤ n

-- a beginning of a block is torn
abbrev pub BeginningsAreTorn : Type 0
BeginningsAreTorn = (limit k : ℕ) (b : FileBlock) → IsBlock limit b → k < length (bytes_of b) → IsTorn limit (take k (bytes_of b))

-- the block that records of a connection are written as is read as that block, with the number and the records
abbrev pub PutIsRead : Type 0
PutIsRead = (limit number : ℕ) (records : List (List ℕ)) → number < 2 ^ 64 → length (joined records) < 2 ^ 32 → AreRecords limit records → AreFew records
    → (b : FileBlock) × IsBlock limit b × (b.records ≡ records) × (number_of b.head ≡ number)
    × (bytes_of b ≡ block_text (record { number = number; records = joined records }))
