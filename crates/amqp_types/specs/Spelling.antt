-- Which bytes spell a value, by cases on the value. [1.2]
use Rattle.std.specs.Prelude.{◌≡◌, ℕ, ◌⊎◌, ◌+◌, ◌-◌, ◌^◌, ◌<◌, nat_lt, if◌then◌else◌, List, [], ◌∷◌, ◌++◌, length, Some}
use Rattle.std.specs.Char.{IsScalar}
use Rattle.std.specs.Str.{IsUtf8, IsAscii}
use Rattle.byteorder.specs.Endian.{big_bytes}
use Rattle.amqp_types.specs.declared.kind.Kind.{Kind}
use Rattle.amqp_types.specs.declared.kind.Kind.TheVariants as kind
use Rattle.amqp_types.specs.declared.code.Form.{Form}
use Rattle.amqp_types.specs.declared.code.Form.TheVariants as form
use Rattle.amqp_types.specs.declared.code.SizeWidth.{SizeWidth}
use Rattle.amqp_types.specs.declared.code.SizeWidth.TheVariants as size
use Rattle.amqp_types.specs.declared.code.Constructor.{Constructor}
use Rattle.amqp_types.specs.declared.code.Constructor.TheVariants.{Fixed, Variable, EmptyList, ListIn, MapIn, ArrayIn}
use Rattle.amqp_types.specs.Kinds.{width}
use Rattle.amqp_types.specs.Codes.{find_code, kind_of}
use Rattle.amqp_types.specs.Trees.{Tree, Number, Octets, ListOf, MapOf, ArrayOf, Described, Trees, none, more, Pairs, no_pair, pair, count_of, pair_count}

-- a signed byte, extended to n bytes in two's complement
abbrev pub sign_extended : ℕ → ℕ → ℕ
sign_extended n byte = if nat_lt byte 128 then byte else 256 ^ n - 256 + byte

-- the data that give a number of n bytes in a form [1.6]
abbrev pub SpellsNumber : Form → ℕ → ℕ → List ℕ → Type 0
SpellsNumber form.Zero n number text = (number ≡ 0) × (text ≡ [])
SpellsNumber form.One n number text = (number ≡ 1) × (text ≡ [])
SpellsNumber form.OneByte n number text = (number < 256) × (text ≡ number ∷ [])
SpellsNumber form.OneSigned n number text = (byte : ℕ) × (byte < 256) × (number ≡ sign_extended n byte) × (text ≡ byte ∷ [])
SpellsNumber form.Full n number text = (number < 256 ^ n) × (text ≡ big_bytes n number)

-- how many bytes of data a form has
abbrev pub form_len : Form → ℕ → ℕ
form_len form.Zero n = 0
form_len form.One n = 0
form_len form.OneByte n = 1
form_len form.OneSigned n = 1
form_len form.Full n = n

-- how many bytes the size field before variable-width data has [1.2.2]
abbrev pub size_len : SizeWidth → ℕ
size_len size.One = 1
size_len size.Four = 4

-- the data of variable width: their size, then as many bytes [1.2.2]
abbrev pub SpellsOctets : SizeWidth → List ℕ → List ℕ → Type 0
SpellsOctets s octets text = (length octets < 256 ^ size_len s) × (text ≡ big_bytes (size_len s) (length octets) ++ octets)

-- the numbers of a kind: a boolean's byte is 0 or 1, a char is a Unicode scalar value [1.6.2, 1.6.16]
abbrev pub IsNumberOf : Kind → ℕ → Type 0
IsNumberOf kind.Boolean n = n < 2
IsNumberOf kind.Char n = IsScalar n
IsNumberOf _ n = Unit {0}

-- the bytes of a kind: a string's are UTF-8, a symbol's are ASCII [1.6.20, 1.6.21]
abbrev pub AreOctetsOf : Kind → List ℕ → Type 0
AreOctetsOf kind.String octets = IsUtf8 octets
AreOctetsOf kind.Symbol octets = IsAscii octets
AreOctetsOf _ octets = Unit {0}

-- a size, a count, and the spellings of the parts: the size counts the count and the parts [1.2.3]
abbrev pub SpellsBlock : SizeWidth → ℕ → List ℕ → List ℕ → Type 0
SpellsBlock s count parts text =
    (count < 256 ^ size_len s) × (size_len s + length parts < 256 ^ size_len s)
    × (text ≡ big_bytes (size_len s) (size_len s + length parts) ++ (big_bytes (size_len s) count ++ parts))

-- The bytes spell the value: a code of its kind, then data that give it.
unfoldable mutual
  pub Spells : Tree → List ℕ → Type 0
  Spells (Number k n) bytes =
      (code : ℕ) × (f : Form) × (text : List ℕ) × (find_code code ≡ Some (Fixed k f)) × (bytes ≡ code ∷ text)
      × SpellsNumber f (width k) n text × IsNumberOf k n
  Spells (Octets k octets) bytes =
      (code : ℕ) × (s : SizeWidth) × (text : List ℕ) × (find_code code ≡ Some (Variable k s)) × (bytes ≡ code ∷ text)
      × SpellsOctets s octets text × AreOctetsOf k octets
  -- a list: nothing after the code of the empty one, or a block of its items [1.6.22]
  Spells (ListOf ts) bytes =
      ((code : ℕ) × (find_code code ≡ Some EmptyList) × (bytes ≡ code ∷ []) × (ts ≡ none))
      ⊎ ((code : ℕ) × (s : SizeWidth) × (parts text : List ℕ) × (find_code code ≡ Some (ListIn s)) × (bytes ≡ code ∷ text)
      × SpellsBlock s (count_of ts) parts text × SpellAll ts parts)
  -- a map: a block of its keys and values in turn [1.6.23]
  Spells (MapOf ps) bytes =
      (code : ℕ) × (s : SizeWidth) × (parts text : List ℕ) × (find_code code ≡ Some (MapIn s)) × (bytes ≡ code ∷ text)
      × SpellsBlock s (pair_count ps) parts text × SpellPairs ps parts
  -- an array: a block of one element constructor and its items' data [1.2.4, 1.6.24]
  Spells (ArrayOf ds k ts) bytes =
      (code : ℕ) × (s : SizeWidth) × (element : ℕ) × (c : Constructor) × (head parts text : List ℕ) × (find_code code ≡ Some (ArrayIn s))
      × (bytes ≡ code ∷ text) × SpellsBlock s (count_of ts) (head ++ element ∷ parts) text
      × SpellDescriptors ds head × (find_code element ≡ Some c) × (kind_of c ≡ k) × SpellItems element ts parts
  -- a described value: 00, its descriptor, and the value itself [1.2]
  Spells (Described d t) bytes = (first second : List ℕ) × (bytes ≡ 0 ∷ (first ++ second)) × Spells d first × Spells t second

  -- the spellings of these values, joined
  pub SpellAll : Trees → List ℕ → Type 0
  SpellAll none bytes = bytes ≡ []
  SpellAll (more t ts) bytes = (first others : List ℕ) × (bytes ≡ first ++ others) × Spells t first × SpellAll ts others

  -- 00 and a descriptor, for each
  pub SpellDescriptors : Trees → List ℕ → Type 0
  SpellDescriptors none bytes = bytes ≡ []
  SpellDescriptors (more d ds) bytes = (first others : List ℕ) × (bytes ≡ 0 ∷ (first ++ others)) × Spells d first × SpellDescriptors ds others

  -- data that spell the items: each item is spelled by the element constructor and its data
  pub SpellItems : ℕ → Trees → List ℕ → Type 0
  SpellItems element none bytes = bytes ≡ []
  SpellItems element (more t ts) bytes = (first others : List ℕ) × (bytes ≡ first ++ others) × Spells t (element ∷ first) × SpellItems element ts others

  pub SpellPairs : Pairs → List ℕ → Type 0
  SpellPairs no_pair bytes = bytes ≡ []
  SpellPairs (pair k v ps) bytes =
      (first second others : List ℕ) × (bytes ≡ first ++ (second ++ others)) × Spells k first × Spells v second × SpellPairs ps others
