-- How the address of a target is found, by the outermost cases of its values.
use Rattle.std.specs.Prelude.{◌≡◌, ℕ, ◌≤◌, ◌==◌, Bool, false, if◌then◌else◌, List, ◌++◌, codes}
use Rattle.std.specs.Str.{bytes_eq}
use Rattle.amqp_types.specs.declared.kind.Kind.TheVariants as kind
use Rattle.amqp_types.specs.declared.peeked.Peek.{Peek}
use Rattle.amqp_types.specs.declared.peeked.Peek.TheVariants as peek
use Rattle.amqp_types.specs.Spelling.{Spells, SpellAll}
use Rattle.amqp_types.specs.Trees.{Tree, Trees, count_of, depth_of, depth_of_all}
use Rattle.amqp_perform.specs.Addresses.{Node, Named, Made, Nameless, OtherNode}

-- the bytes begin with this value, within 30 levels
abbrev pub BeginsWith : Tree → List ℕ → Type 0
BeginsWith t bytes = (text rest : List ℕ) × Spells t text × (bytes ≡ text ++ rest) × (depth_of t ≤ 30)

-- the bytes spell these items, so many, within 30 levels
abbrev pub SpellItems : ℕ → Trees → List ℕ → Type 0
SpellItems count ts items = (count ≡ count_of ts) × SpellAll ts items × (depth_of_all ts ≤ 30)

abbrev pub peeks_target : Peek → Bool
peeks_target (peek.Unsigned kind.Ulong n) = n == 0x29
peeks_target (peek.Symbol octets) = bytes_eq octets.now (codes "amqp:target:list")
peeks_target _ = false

abbrev pub peeks_true : Peek → Bool
peeks_true (peek.Boolean b) = b
peeks_true _ = false

abbrev pub peeks_node : Peek → Bool → Node
peeks_node (peek.String name) dynamic = Named name.now
peeks_node peek.Null dynamic = if dynamic then Made else Nameless
peeks_node _ dynamic = OtherNode
