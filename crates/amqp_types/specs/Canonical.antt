-- Canonical writing: the one spelling of each value that is written, with the shortest constructor. [1.2; 1.6]
use Rattle.std.specs.Prelude.{◌≢◌, ℕ, ◌+◌, ◌-◌, ◌%◌, ◌^◌, ◌<◌, ◌==◌, ◌&&◌, ◌||◌, nat_lt, nat_le, Bool, true, if◌then◌else◌, List, [], ◌∷◌, ◌++◌, length, slice_index, IsTrue, Option, Some, None}
use Rattle.byteorder.specs.Endian.{big_bytes}
use Rattle.amqp_types.specs.declared.kind.Kind.{Kind}
use Rattle.amqp_types.specs.declared.kind.Kind.TheVariants as kind
use Rattle.amqp_types.specs.declared.code.SizeWidth.{SizeWidth}
use Rattle.amqp_types.specs.declared.code.SizeWidth.TheVariants as size
use Rattle.amqp_types.specs.declared.shell.Shell.{Shell}
use Rattle.amqp_types.specs.declared.shell.Shell.TheVariants as shell
use Rattle.amqp_types.specs.declared.shell.Short.{Short}
use Rattle.amqp_types.specs.declared.shell.Short.TheVariants as short
use Rattle.amqp_types.specs.Kinds.{width, fixed_width}
use Rattle.amqp_types.specs.Spelling.{size_len, IsNumberOf, AreOctetsOf}
use Rattle.amqp_types.specs.Trees.{Tree, Number, Octets, ListOf, MapOf, ArrayOf, Described, Trees, none, more, Pairs, no_pair, pair, count_of, pair_count}

abbrev pub by_size : SizeWidth → ℕ → ℕ → ℕ
by_size size.One one four = one
by_size size.Four one four = four

-- the code of a kind's full form, or of a variable-width kind with a size of that width
abbrev pub full_code : SizeWidth → Kind → ℕ
full_code s kind.Null = 0x40
full_code s kind.Boolean = 0x56
full_code s kind.Ubyte = 0x50
full_code s kind.Ushort = 0x60
full_code s kind.Uint = 0x70
full_code s kind.Ulong = 0x80
full_code s kind.Byte = 0x51
full_code s kind.Short = 0x61
full_code s kind.Int = 0x71
full_code s kind.Long = 0x81
full_code s kind.Float = 0x72
full_code s kind.Double = 0x82
full_code s kind.Decimal32 = 0x74
full_code s kind.Decimal64 = 0x84
full_code s kind.Decimal128 = 0x94
full_code s kind.Char = 0x73
full_code s kind.Timestamp = 0x83
full_code s kind.Uuid = 0x98
full_code s kind.Binary = by_size s 0xa0 0xb0
full_code s kind.String = by_size s 0xa1 0xb1
full_code s kind.Symbol = by_size s 0xa3 0xb3
full_code s kind.List = by_size s 0xc0 0xd0
full_code s kind.Map = by_size s 0xc1 0xd1
full_code s kind.Array = by_size s 0xe0 0xf0

-- The short forms of numbers: some values have no data, or one byte of data. [1.6.2 to 1.6.10]
abbrev pub boolean_form : ℕ → Option Short
boolean_form n = if n == 0 then Some (short.Code 0x42) else (if n == 1 then Some (short.Code 0x41) else None)

-- the code of 0, and the code of a number of one byte
abbrev pub unsigned_form : ℕ → ℕ → ℕ → Option Short
unsigned_form zero_code code n = if n == 0 then Some (short.Code zero_code) else (if nat_lt n 256 then Some (short.Byte code n) else None)

-- the code of a number of one byte in two's complement, and the full form of -128
abbrev pub signed_form : ℕ → ℕ → ℕ → Option Short
signed_form code least n = if nat_lt n 128 || nat_le least n then Some (short.Byte code (n % 256)) else None

-- the spelling of a number that is shorter than the full form, if there is one
abbrev pub short_form : Kind → ℕ → Option Short
short_form kind.Boolean n = boolean_form n
short_form kind.Uint n = unsigned_form 0x43 0x52 n
short_form kind.Ulong n = unsigned_form 0x44 0x53 n
short_form kind.Int n = signed_form 0x54 (256 ^ 4 - 128) n
short_form kind.Long n = signed_form 0x55 (256 ^ 8 - 128) n
short_form _ n = None

abbrev pub short_text : Short → List ℕ
short_text (short.Code code) = code ∷ []
short_text (short.Byte code byte) = code ∷ byte ∷ []

-- the short form, or the full one
abbrev pub number_text : Kind → ℕ → Option Short → List ℕ
number_text k n (Some s) = short_text s
number_text k n None = full_code size.One k ∷ big_bytes (width k) n

-- what of a value stands around its content
abbrev pub shell_of : Tree → Shell
shell_of (Number k n) = shell.Number k n
shell_of (Octets k octets) = shell.Octets k
shell_of (ListOf ts) = shell.List (count_of ts)
shell_of (MapOf ps) = shell.Map (pair_count ps)
shell_of (ArrayOf ds k ts) = shell.Array (count_of ts)
shell_of (Described d t) = shell.Described

-- a size, a count and the content: the size counts the count and the content [1.2.3]
abbrev pub block : SizeWidth → ℕ → List ℕ → List ℕ
block s count content = big_bytes (size_len s) (size_len s + length content) ++ (big_bytes (size_len s) count ++ content)

-- the data after the code of the full form
abbrev pub full_data : SizeWidth → Shell → List ℕ → List ℕ
full_data s (shell.Number k n) content = big_bytes (width k) n
full_data s (shell.Octets k) content = big_bytes (size_len s) (length content) ++ content
full_data s (shell.List n) content = block s n content
full_data s (shell.Map n) content = block s n content
full_data s (shell.Array n) content = block s n content
full_data s shell.Described content = content

-- whether the size, and the count, are at most 255
abbrev pub is_small : Shell → List ℕ → Bool
is_small (shell.Number k n) content = true
is_small (shell.Octets k) content = nat_lt (length content) 256
is_small (shell.List n) content = nat_lt n 256 && nat_lt (length content) 255
is_small (shell.Map n) content = nat_lt n 256 && nat_lt (length content) 255
is_small (shell.Array n) content = nat_lt n 256 && nat_lt (length content) 255
is_small shell.Described content = true

-- the width of size fields that is enough
abbrev pub narrowest : Bool → SizeWidth
narrowest small = if small then size.One else size.Four

abbrev pub sized : Kind → Shell → List ℕ → List ℕ
sized k around content =
    let s = narrowest (is_small around content) in full_code s k ∷ full_data s around content

-- the shortest spelling of a shell and a content
abbrev pub shortest : Shell → List ℕ → List ℕ
shortest (shell.Number k n) content = number_text k n (short_form k n)
shortest (shell.Octets k) content = sized k (shell.Octets k) content
shortest (shell.List n) content = if n == 0 then 0x45 ∷ [] else sized kind.List (shell.List n) content
shortest (shell.Map n) content = sized kind.Map (shell.Map n) content
shortest (shell.Array n) content = sized kind.Array (shell.Array n) content
shortest shell.Described content = 0 ∷ content

-- whether all items of an array fit size fields of one byte, for they share one constructor [1.6.24]
abbrev pub all_small : List (Shell × List ℕ) → Bool
all_small [] = true
all_small (p ∷ ps) = is_small p.0 p.1 && all_small ps

abbrev pub all_data : SizeWidth → List (Shell × List ℕ) → List ℕ
all_data s [] = []
all_data s (p ∷ ps) = full_data s p.0 p.1 ++ all_data s ps

abbrev pub item_width : List (Shell × List ℕ) → SizeWidth
item_width ps = narrowest (all_small ps)

-- one element constructor, then the data of each item
abbrev pub items_data : Kind → List (Shell × List ℕ) → List ℕ
items_data k ps = full_code (item_width ps) k ∷ all_data (item_width ps) ps

-- What stands inside a value: its bytes, or the spellings of its parts, joined.
abbrev mutual
  pub content_of : Tree → List ℕ
  content_of (Number k n) = []
  content_of (Octets k octets) = octets
  content_of (ListOf ts) = canonicals ts
  content_of (MapOf ps) = canonical_pairs ps
  content_of (ArrayOf ds k ts) = canonical_heads ds ++ items_data k (parts ts)
  content_of (Described d t) = shortest (shell_of d) (content_of d) ++ shortest (shell_of t) (content_of t)

  pub canonicals : Trees → List ℕ
  canonicals none = []
  canonicals (more t ts) = shortest (shell_of t) (content_of t) ++ canonicals ts

  pub canonical_pairs : Pairs → List ℕ
  canonical_pairs no_pair = []
  canonical_pairs (pair k v ps) = shortest (shell_of k) (content_of k) ++ (shortest (shell_of v) (content_of v) ++ canonical_pairs ps)

  -- 00 and a descriptor, for each [1.2.4]
  pub canonical_heads : Trees → List ℕ
  canonical_heads none = []
  canonical_heads (more d ds) = 0 ∷ (shortest (shell_of d) (content_of d) ++ canonical_heads ds)

  pub parts : Trees → List (Shell × List ℕ)
  parts none = []
  parts (more t ts) = (shell_of t, content_of t) ∷ parts ts

-- the canonical spelling
abbrev pub canonical : Tree → List ℕ
canonical t = shortest (shell_of t) (content_of t)

-- the size and the count of the value itself fit four bytes [1.2.2 to 1.2.4]
abbrev pub has_room : Shell → List ℕ → Bool
has_room (shell.Number k n) content = true
has_room (shell.Octets k) content = nat_lt (length content) (2 ^ 32)
has_room (shell.List n) content = nat_lt n (2 ^ 32) && nat_lt (4 + length content) (2 ^ 32)
has_room (shell.Map n) content = nat_lt n (2 ^ 32) && nat_lt (4 + length content) (2 ^ 32)
has_room (shell.Array n) content = nat_lt n (2 ^ 32) && nat_lt (4 + length content) (2 ^ 32)
has_room shell.Described content = true

-- Values that fit: each size and each count in the canonical spelling is below 2 ^ 32.
abbrev mutual
  pub Fits : Tree → Type 0
  Fits (Number k n) = Unit {0}
  Fits (Octets k octets) = IsTrue (has_room (shell.Octets k) octets)
  Fits (ListOf ts) = IsTrue (has_room (shell.List (count_of ts)) (canonicals ts)) × AllFit ts
  Fits (MapOf ps) = IsTrue (has_room (shell.Map (pair_count ps)) (canonical_pairs ps)) × PairsFit ps
  Fits (ArrayOf ds k ts) = IsTrue (has_room (shell.Array (count_of ts)) (canonical_heads ds ++ items_data k (parts ts))) × AllFit ds × AllFit ts
  Fits (Described d t) = Fits d × Fits t

  pub AllFit : Trees → Type 0
  AllFit none = Unit {0}
  AllFit (more t ts) = Fits t × AllFit ts

  pub PairsFit : Pairs → Type 0
  PairsFit no_pair = Unit {0}
  PairsFit (pair k v ps) = Fits k × Fits v × PairsFit ps

-- kinds whose values are bytes [1.6.19 to 1.6.21]
abbrev pub IsOfOctets : Kind → Type 0
IsOfOctets kind.Binary = Unit {0}
IsOfOctets kind.String = Unit {0}
IsOfOctets kind.Symbol = Unit {0}
IsOfOctets _ = ⊥

-- Ranged values: each number is valid for its kind, and so are the bytes of each text. [1.6]
abbrev mutual
  pub IsRanged : Tree → Type 0
  IsRanged (Number k n) = (fixed_width k ≢ None) × (n < 256 ^ width k) × IsNumberOf k n
  IsRanged (Octets k octets) = IsOfOctets k × ((i : ℕ) → slice_index octets i < 256) × AreOctetsOf k octets
  IsRanged (ListOf ts) = AllRanged ts
  IsRanged (MapOf ps) = PairsRanged ps
  IsRanged (ArrayOf ds k ts) = AllRanged ds × AllRanged ts
  IsRanged (Described d t) = IsRanged d × IsRanged t

  pub AllRanged : Trees → Type 0
  AllRanged none = Unit {0}
  AllRanged (more t ts) = IsRanged t × AllRanged ts

  pub PairsRanged : Pairs → Type 0
  PairsRanged no_pair = Unit {0}
  PairsRanged (pair k v ps) = IsRanged k × IsRanged v × PairsRanged ps
