-- A form of values in memory, in which values are equal exactly if their bytes are: no size limits it, and
-- no form begins another. Maps find equal keys by it.
use Rattle.std.specs.Prelude.{ℕ, Bool, false, ◌||◌, List, [], ◌∷◌, ◌++◌, length}
use Rattle.std.specs.Str.{bytes_eq}
use Rattle.byteorder.specs.Endian.{big_bytes}
use Rattle.amqp_types.specs.declared.kind.Kind.{Kind}
use Rattle.amqp_types.specs.declared.kind.Kind.TheVariants as kind
use Rattle.amqp_types.specs.Trees.{Tree, Number, Octets, ListOf, MapOf, ArrayOf, Described, Trees, none, more, Pairs, no_pair, pair}

-- the place of a kind among the kinds
abbrev pub kind_number : Kind → ℕ
kind_number kind.Null = 0
kind_number kind.Boolean = 1
kind_number kind.Ubyte = 2
kind_number kind.Ushort = 3
kind_number kind.Uint = 4
kind_number kind.Ulong = 5
kind_number kind.Byte = 6
kind_number kind.Short = 7
kind_number kind.Int = 8
kind_number kind.Long = 9
kind_number kind.Float = 10
kind_number kind.Double = 11
kind_number kind.Decimal32 = 12
kind_number kind.Decimal64 = 13
kind_number kind.Decimal128 = 14
kind_number kind.Char = 15
kind_number kind.Timestamp = 16
kind_number kind.Uuid = 17
kind_number kind.Binary = 18
kind_number kind.String = 19
kind_number kind.Symbol = 20
kind_number kind.List = 21
kind_number kind.Map = 22
kind_number kind.Array = 23

-- Items end with 0, and 1 stands before each.
unfoldable mutual
  pub image : Tree → List ℕ
  image (Number k n) = 0 ∷ kind_number k ∷ big_bytes 16 n
  image (Octets k octets) = 1 ∷ kind_number k ∷ (big_bytes 8 (length octets) ++ octets)
  image (ListOf ts) = 2 ∷ images ts
  image (MapOf ps) = 3 ∷ pair_images ps
  image (ArrayOf ds k ts) = 4 ∷ kind_number k ∷ (images ds ++ images ts)
  image (Described d t) = 5 ∷ (image d ++ image t)

  pub images : Trees → List ℕ
  images none = 0 ∷ []
  images (more t ts) = 1 ∷ (image t ++ images ts)

  pub pair_images : Pairs → List ℕ
  pair_images no_pair = 0 ∷ []
  pair_images (pair k v ps) = 1 ∷ (image k ++ (image v ++ pair_images ps))

-- whether a value is among these keys
unfoldable pub has_key : Tree → Trees → Bool
has_key key none = false
has_key key (more t ts) = bytes_eq (image t) (image key) || has_key key ts
