-- A tag in an array of fixed size: its bytes, and then
-- zeros.
use Rattle.std.specs.Prelude.{◌≡◌, ℕ, ◌-◌, ◌≤◌, List, ◌++◌, length, take, drop, replicate}
use Rattle.std.proofs.Common.{refl}
use Rattle.std.proofs.lemmas.List.{take-append-drop, length-take-le}
use Rattle.amqp_link.specs.declared.tag.Tag.TheInside.{Inside}

-- the first `len` bytes are the tag's, and the others are
-- zeros
pub record IsPadded (bytes : List ℕ) (len : ℕ) : Type 0 where
  pub whole : length bytes ≡ 32
  pub within : len ≤ 32
  pub rest : drop len bytes ≡ replicate (32 - len) 0

-- a tag with its zeros
abbrev pub padded : List ℕ → List ℕ
padded tag = tag ++ replicate (32 - length tag) 0

-- a tag's fields can be computed from its bytes
pub same_again : (a : Inside) → IsPadded a.bytes a.len → record { bytes = padded (take a.len a.bytes); len = length (take a.len a.bytes) } ≡ a
same_again a h =
    let long : a.len ≤ length a.bytes = rw h.whole h.within in
    let len = length-take-le a.len a.bytes long in
    rw (len, ← h.rest, take-append-drop a.len a.bytes) refl
