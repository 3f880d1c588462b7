-- How the type of a coordinator is found at the beginning of a target.
use Rattle.std.specs.Prelude.{◌≡◌, ℕ, ◌≤◌, ◌==◌, Bool, false, List, ◌++◌, codes, bytes_eq}
use Rattle.amqp_types.specs.declared.kind.Kind.TheVariants as kind
use Rattle.amqp_types.specs.declared.peeked.Peek.{Peek}
use Rattle.amqp_types.specs.declared.peeked.Peek.TheVariants as peek
use Rattle.amqp_types.specs.Spelling.{Spells}
use Rattle.amqp_types.specs.Trees.{Tree, depth_of}

-- the bytes begin with a value, within a depth
abbrev pub BeginsWithin : ℕ → List ℕ → Type 0
BeginsWithin depth bytes = (t : Tree) × (text rest : List ℕ) × Spells t text × (depth_of t ≤ depth) × (bytes ≡ text ++ rest)

-- the outermost case of a value is that of the type of a coordinator
abbrev pub peeks_coordinator : Peek → Bool
peeks_coordinator (peek.Unsigned kind.Ulong n) = n == 0x30
peeks_coordinator (peek.Symbol octets) = bytes_eq octets.now (codes "amqp:coordinator:list")
peeks_coordinator _ = false
