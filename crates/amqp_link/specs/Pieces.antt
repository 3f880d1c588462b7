-- How the bytes of a message are kept: in blocks of whole pieces, but for the last piece of the last block. No public clause names it.
use Rattle.std.specs.Prelude.{◌≡◌, ℕ, ◌+◌, ◌-◌, ◌%◌, ◌<◌, nat_eq, nat_le, if◌then◌else◌, List, [], ◌∷◌, ◌++◌, length, map, ⊤}
use Rattle.std.specs.List.{flat_map}
use Rattle.amqp_link.specs.declared.blocks.Block.{Block}

-- the bytes of a piece that is whole
abbrev pub piece_size : ℕ
piece_size = 4096

-- how many bytes the last piece of `len` bytes lacks to be whole; 0 if there is no piece
abbrev pub lacking_of : ℕ → ℕ
lacking_of len = (piece_size - len % piece_size) % piece_size

-- one or more whole pieces, and nothing after them
pub record AreWhole (bytes : List ℕ) : Type 0 where
  pub some : 0 < length bytes
  pub whole : length bytes % piece_size ≡ 0

-- how bytes lie in blocks: the lengths of the blocks before the last one, and the length of the last one
pub record Lying : Type 0 where
  pub bytes : List ℕ
  pub before : List ℕ
  pub last : ℕ

-- no bytes
abbrev pub nothing : Lying
nothing = record { bytes = []; before = []; last = 0 }

abbrev pub in_one_block : List ℕ → Lying
in_one_block bytes = record { bytes = bytes; before = []; last = length bytes }

-- How bytes lie after a payload. The first that brings a byte lies in one block. Of a later one the last block takes what its last piece lacks, and what is beyond that lies in one new block.
abbrev pub with_payload : Lying → List ℕ → Lying
with_payload old payload =
    if nat_eq old.last 0 then record { bytes = old.bytes ++ payload; before = old.before; last = length payload }
    else if nat_le (length payload) (lacking_of old.last) then record { bytes = old.bytes ++ payload; before = old.before; last = old.last + length payload }
    else record { bytes = old.bytes ++ payload; before = old.before ++ (old.last + lacking_of old.last) ∷ []; last = length payload - lacking_of old.last }

-- the sum of lengths
abbrev pub total : List ℕ → ℕ
total [] = 0
total (n ∷ lengths) = n + total lengths

module _ {A : Type 0} where
  -- the bytes of these blocks, one after the other
  abbrev pub joined : List (Block A) → List ℕ
  joined blocks = flat_map (λ (b : Block A). b.bytes.items) blocks

  -- and their lengths
  abbrev pub lengths_of : List (Block A) → List ℕ
  lengths_of blocks = map (λ (b : Block A). length b.bytes.items) blocks

  abbrev pub lying : List (Block A) → List ℕ → Lying
  lying blocks last = record { bytes = joined blocks ++ last; before = lengths_of blocks; last = length last }

  -- blocks that follow `start` bytes: each has whole pieces, and ends where it says
  abbrev pub AreBlocks : ℕ → List (Block A) → Type 0
  AreBlocks start [] = ⊤
  AreBlocks start (b ∷ bs) = AreWhole b.bytes.items × (b.end ≡ start + length b.bytes.items) × AreBlocks b.end bs

  -- The last block may have any length. If another is before it, it has at least one byte.
  pub record ArePieces (blocks : List (Block A)) (last : List ℕ) : Type 0 where
    pub each : AreBlocks 0 blocks
    pub some : (blocks ≡ [] → ⊥) → 0 < length last
