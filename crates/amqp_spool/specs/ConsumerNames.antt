-- The name of a consumer in an array of fixed size: its characters, and then zeros.
use Rattle.std.specs.Prelude.{◌≡◌, ℕ, ◌-◌, ◌≤◌, List, ◌++◌, length, take, drop, replicate}
use Rattle.std.specs.Str.{IsUtf8}
use Rattle.std.proofs.Common.{refl}
use Rattle.std.proofs.lemmas.List.{take-append-drop, length-take-le}
use Rattle.amqp_spool.specs.declared.consumer_name.ConsumerName.TheInside.{Inside}
use Rattle.amqp_spool.specs.Positions.{IsName}

-- The first `len` bytes are the name, and the others are zeros.
pub record IsKept (text : List ℕ) (len : ℕ) : Type 0 where
  pub whole : length text ≡ 64
  pub within : len ≤ 64
  pub rest : drop len text ≡ replicate (64 - len) 0
  pub name : IsName (take len text)
  pub utf8 : IsUtf8 (take len text)

-- a name with its zeros
abbrev pub padded : List ℕ → List ℕ
padded name = name ++ replicate (64 - length name) 0

-- A name's fields can be computed from its characters.
pub same_again : (a : Inside) → IsKept a.text a.len → record { text = padded (take a.len a.text); len = length (take a.len a.text) } ≡ a
same_again a h =
    let long : a.len ≤ length a.text = rw h.whole h.within in
    let len = length-take-le a.len a.text long in
    rw (len, ← h.rest, take-append-drop a.len a.text) refl
