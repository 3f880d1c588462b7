-- What a value in memory is made of.
use Rattle.std.specs.Prelude.{◌≡◌}
use Rattle.amqp_types.specs.declared.shape.Shape.{Shape}
use Rattle.amqp_types.specs.declared.shape.Shape.TheVariants as shape
use Rattle.amqp_types.specs.declared.value.Value.{Value}
use Rattle.amqp_types.specs.declared.value.Value as value
use Rattle.amqp_types.specs.Trees.{Tree, Number, Octets, ListOf, MapOf, ArrayOf, Described}
use Rattle.amqp_types.specs.Canonical.{IsRanged}
use Rattle.amqp_types.specs.Values.{view, views, pair_views}

-- the value that is made of this
abbrev pub tree_of : Shape → Tree
tree_of (shape.Number k n) = Number k n
tree_of (shape.Octets k octets) = Octets k octets.now
tree_of (shape.List items) = ListOf (views items.now.items)
tree_of (shape.Map entries) = MapOf (pair_views entries.now.items)
tree_of (shape.Array descriptors k items) = ArrayOf (views descriptors.now.items) k (views items.now.items)
tree_of (shape.Described d t) = Described (view d.now.value) (view t.now.value)

-- if the value holds others, it holds these
abbrev pub IsMadeOf : Shape → Value → Type 0
IsMadeOf (shape.Number k n) v = Unit {0}
IsMadeOf (shape.Octets k octets) v = Unit {0}
IsMadeOf (shape.List items) v = v ≡ value.List items.now
IsMadeOf (shape.Map entries) v = v ≡ value.Map entries.now
IsMadeOf (shape.Array descriptors k items) v = v ≡ value.Array descriptors.now k items.now
IsMadeOf (shape.Described d t) v = v ≡ value.Described d.now t.now

-- if the value holds no others, it is ranged
abbrev pub IsRangedShape : Shape → Type 0
IsRangedShape (shape.Number k n) = IsRanged (Number k n)
IsRangedShape (shape.Octets k octets) = IsRanged (Octets k octets.now)
IsRangedShape _ = Unit {0}
