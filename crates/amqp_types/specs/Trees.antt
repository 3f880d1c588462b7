-- Values as trees: what a value is, apart from how it is spelled and where it lies in memory. [1.1]
use Rattle.std.specs.Prelude.{◌≡◌, ◌≢◌, ℕ, ◌+◌, max, List, if◌then◌else◌}
use Rattle.amqp_types.specs.declared.kind.Kind.{Kind}
use Rattle.amqp_types.specs.declared.kind.Kind.TheVariants as kind
use Rattle.amqp_types.specs.Kinds.{is_container}

mutual
  pub data Tree : Type 0 where
    -- a fixed-width value, as the number of its full form; signed ones in two's complement
    Number : Kind → ℕ → Tree
    -- a variable-width value, as its bytes
    Octets : Kind → List ℕ → Tree
    ListOf : Trees → Tree
    MapOf : Pairs → Tree
    -- the descriptors of each item, outermost first, the items' kind, and the items without descriptors
    ArrayOf : Trees → Kind → Trees → Tree
    Described : Tree → Tree → Tree

  pub data Trees : Type 0 where
    none : Trees
    more : Tree → Trees → Trees

  pub data Pairs : Type 0 where
    no_pair : Pairs
    pair : Tree → Tree → Pairs → Pairs

abbrev pub count_of : Trees → ℕ
count_of none = 0
count_of (more t ts) = count_of ts + 1

-- keys and values together
abbrev pub pair_count : Pairs → ℕ
pair_count no_pair = 0
pair_count (pair k v ps) = pair_count ps + 2

-- no key of the map is this value
abbrev pub HasNoKey : Tree → Pairs → Type 0
HasNoKey key no_pair = Unit {0}
HasNoKey key (pair k v ps) = (k ≢ key) × HasNoKey key ps

-- the value is of the kind; a described one is of none
abbrev pub IsOfKind : Kind → Tree → Type 0
IsOfKind k (Number j n) = j ≡ k
IsOfKind k (Octets j octets) = j ≡ k
IsOfKind k (ListOf ts) = k ≡ kind.List
IsOfKind k (MapOf ps) = k ≡ kind.Map
IsOfKind k (ArrayOf ds j ts) = k ≡ kind.Array
IsOfKind k (Described d t) = ⊥

abbrev pub AreOfKind : Kind → Trees → Type 0
AreOfKind k none = Unit {0}
AreOfKind k (more t ts) = IsOfKind k t × AreOfKind k ts

-- Lawful values: no map in them has two equal keys, and an array's items are of its kind. [1.6.23, 1.6.24]
abbrev mutual
  pub IsLawful : Tree → Type 0
  IsLawful (Number k n) = Unit {0}
  IsLawful (Octets k octets) = Unit {0}
  IsLawful (ListOf ts) = AreLawful ts
  IsLawful (MapOf ps) = ArePairsLawful ps
  IsLawful (ArrayOf ds k ts) = AreLawful ds × AreLawful ts × AreOfKind k ts
  IsLawful (Described d t) = IsLawful d × IsLawful t

  pub AreLawful : Trees → Type 0
  AreLawful none = Unit {0}
  AreLawful (more t ts) = IsLawful t × AreLawful ts

  pub ArePairsLawful : Pairs → Type 0
  ArePairsLawful no_pair = Unit {0}
  ArePairsLawful (pair k v ps) = IsLawful k × IsLawful v × HasNoKey k ps × ArePairsLawful ps

-- How many lists, maps, arrays and described values are nested in one another. The items of an array of
-- containers count as at least one level, even if the array has no item.
abbrev mutual
  pub depth_of : Tree → ℕ
  depth_of (Number k n) = 0
  depth_of (Octets k octets) = 0
  depth_of (ListOf ts) = depth_of_all ts + 1
  depth_of (MapOf ps) = depth_of_pairs ps + 1
  depth_of (ArrayOf ds k ts) = max (depth_of_all ds) (max (if is_container k then 1 else 0) (depth_of_all ts)) + 1
  depth_of (Described d t) = max (depth_of d) (depth_of t) + 1

  pub depth_of_all : Trees → ℕ
  depth_of_all none = 0
  depth_of_all (more t ts) = max (depth_of t) (depth_of_all ts)

  pub depth_of_pairs : Pairs → ℕ
  depth_of_pairs no_pair = 0
  depth_of_pairs (pair k v ps) = max (depth_of k) (max (depth_of v) (depth_of_pairs ps))

-- The nodes inside a value: its items, keys and values, descriptors and what they describe, and theirs.
abbrev mutual
  pub nodes_in : Tree → ℕ
  nodes_in (Number k n) = 0
  nodes_in (Octets k octets) = 0
  nodes_in (ListOf ts) = count_of ts + nodes_in_all ts
  nodes_in (MapOf ps) = pair_count ps + nodes_in_pairs ps
  nodes_in (ArrayOf ds k ts) = count_of ts + (count_of ds + nodes_in_all ds) + nodes_in_all ts
  nodes_in (Described d t) = 2 + nodes_in d + nodes_in t

  pub nodes_in_all : Trees → ℕ
  nodes_in_all none = 0
  nodes_in_all (more t ts) = nodes_in t + nodes_in_all ts

  pub nodes_in_pairs : Pairs → ℕ
  nodes_in_pairs no_pair = 0
  nodes_in_pairs (pair k v ps) = nodes_in k + nodes_in v + nodes_in_pairs ps

-- the nodes of a value, itself included
abbrev pub nodes_of : Tree → ℕ
nodes_of t = 1 + nodes_in t
