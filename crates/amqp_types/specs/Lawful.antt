-- The parts of a lawful value's law, each by itself. [1.6.23, 1.6.24]
use Rattle.amqp_types.specs.Trees.{Tree, Number, Octets, ListOf, MapOf, ArrayOf, Described, Trees, none, more, Pairs, no_pair, pair, AreOfKind, HasNoKey}

-- the items of each array in the value are of its kind
abbrev mutual
  pub ItemsAgree : Tree → Type 0
  ItemsAgree (Number k n) = Unit {0}
  ItemsAgree (Octets k octets) = Unit {0}
  ItemsAgree (ListOf ts) = AllAgree ts
  ItemsAgree (MapOf ps) = PairsAgree ps
  ItemsAgree (ArrayOf ds k ts) = AllAgree ds × AllAgree ts × AreOfKind k ts
  ItemsAgree (Described d t) = ItemsAgree d × ItemsAgree t

  pub AllAgree : Trees → Type 0
  AllAgree none = Unit {0}
  AllAgree (more t ts) = ItemsAgree t × AllAgree ts

  pub PairsAgree : Pairs → Type 0
  PairsAgree no_pair = Unit {0}
  PairsAgree (pair k v ps) = ItemsAgree k × ItemsAgree v × PairsAgree ps

-- no two keys of the map are equal
abbrev pub KeysApart : Pairs → Type 0
KeysApart no_pair = Unit {0}
KeysApart (pair k v ps) = HasNoKey k ps × KeysApart ps

-- no map in the value has two equal keys
abbrev mutual
  pub KeysDiffer : Tree → Type 0
  KeysDiffer (Number k n) = Unit {0}
  KeysDiffer (Octets k octets) = Unit {0}
  KeysDiffer (ListOf ts) = AllDiffer ts
  KeysDiffer (MapOf ps) = KeysApart ps × PairsDiffer ps
  KeysDiffer (ArrayOf ds k ts) = AllDiffer ds × AllDiffer ts
  KeysDiffer (Described d t) = KeysDiffer d × KeysDiffer t

  pub AllDiffer : Trees → Type 0
  AllDiffer none = Unit {0}
  AllDiffer (more t ts) = KeysDiffer t × AllDiffer ts

  pub PairsDiffer : Pairs → Type 0
  PairsDiffer no_pair = Unit {0}
  PairsDiffer (pair k v ps) = KeysDiffer k × KeysDiffer v × PairsDiffer ps
