-- The tree of a value in memory.
use Rattle.std.specs.Prelude.{if◌then◌else◌, List, [], ◌∷◌, map}
use Rattle.std.specs.Int.{w8, w16, w32, w64, cast_unsigned}
use Rattle.std.specs.String.{string_bytes}
use Rattle.byteorder.specs.Endian.{big_number}
use Rattle.amqp_types.specs.declared.kind.Kind.TheVariants as kind
use Rattle.amqp_types.specs.declared.value.Value.{Value}
use Rattle.amqp_types.specs.declared.value.Value.TheOpen.{Value-F}
use Rattle.amqp_types.specs.declared.value.Value.TheFolds.{fold-Value}
use Rattle.amqp_types.specs.declared.value.Value.TheOpen as shape
use Rattle.amqp_types.specs.Trees.{Tree, Number, Octets, ListOf, MapOf, ArrayOf, Described, Trees, none, more, Pairs, no_pair, pair}

abbrev pub trees : List Tree → Trees
trees [] = none
trees (t ∷ ts) = more t (trees ts)

abbrev pub pairs : List (Tree × Tree) → Pairs
pairs [] = no_pair
pairs (p ∷ ps) = pair p.0 p.1 (pairs ps)

-- one value, with the trees of the values that it holds in their places
abbrev pub layer : Value-F Tree → Tree
layer shape.Null = Number kind.Null 0
layer (shape.Boolean b) = Number kind.Boolean (if b then 1 else 0)
layer (shape.Ubyte n) = Number kind.Ubyte n
layer (shape.Ushort n) = Number kind.Ushort n
layer (shape.Uint n) = Number kind.Uint n
layer (shape.Ulong n) = Number kind.Ulong n
layer (shape.Byte z) = Number kind.Byte (cast_unsigned w8 z)
layer (shape.Short z) = Number kind.Short (cast_unsigned w16 z)
layer (shape.Int z) = Number kind.Int (cast_unsigned w32 z)
layer (shape.Long z) = Number kind.Long (cast_unsigned w64 z)
layer (shape.Float octets) = Number kind.Float (big_number 4 octets)
layer (shape.Double octets) = Number kind.Double (big_number 8 octets)
layer (shape.Decimal32 octets) = Number kind.Decimal32 (big_number 4 octets)
layer (shape.Decimal64 octets) = Number kind.Decimal64 (big_number 8 octets)
layer (shape.Decimal128 octets) = Number kind.Decimal128 (big_number 16 octets)
layer (shape.Char c) = Number kind.Char c
layer (shape.Timestamp z) = Number kind.Timestamp (cast_unsigned w64 z)
layer (shape.Uuid octets) = Number kind.Uuid (big_number 16 octets)
layer (shape.Binary octets) = Octets kind.Binary octets.items
layer (shape.String text) = Octets kind.String (string_bytes text)
layer (shape.Symbol name) = Octets kind.Symbol name
layer (shape.List items) = ListOf (trees items.items)
layer (shape.Map entries) = MapOf (pairs entries.items)
layer (shape.Array descriptors k items) = ArrayOf (trees descriptors.items) k (trees items.items)
layer (shape.Described d t) = Described d.value t.value

abbrev pub view : Value → Tree
view = fold-Value Tree layer

abbrev pub views : List Value → Trees
views vs = trees (map view vs)

abbrev pub pair_views : List (Value × Value) → Pairs
pair_views ps = pairs (map (λ p. (view p.0, view p.1)) ps)
