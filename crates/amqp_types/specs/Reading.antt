-- Reading a value from left to right, with the first fault that is met and its place. [1.2]
use Rattle.std.specs.Prelude.{◌≡◌, ◌⊎◌, ℕ, zero, suc, ◌+◌, ◌-◌, ◌/◌, ◌%◌, Bool, true, false, not, ◌&&◌, ◌==◌, is_some, nat_lt, nat_le, if◌then◌else◌, List, [], ◌∷◌, length, take, drop, Option, Some}
use Rattle.std.specs.Prelude.{None, Result, Ok, Err}
use lib.Utf8.{scalar}
use Rattle.std.specs.Str.{is_utf8}
use Rattle.std.specs.Str.Lossy.{utf8_valid_len}
use Rattle.std.specs.List.{position}
use Rattle.std.specs.Option.{option_map}
use Rattle.byteorder.specs.Endian.{big_number}
use Rattle.amqp_types.specs.declared.kind.Kind.{Kind}
use Rattle.amqp_types.specs.declared.kind.Kind.TheVariants as kind
use Rattle.amqp_types.specs.declared.code.Form.{Form}
use Rattle.amqp_types.specs.declared.code.Form.TheVariants as form
use Rattle.amqp_types.specs.declared.code.SizeWidth.{SizeWidth}
use Rattle.amqp_types.specs.declared.code.Constructor.{Constructor}
use Rattle.amqp_types.specs.declared.code.Constructor.TheVariants.{Fixed, Variable, EmptyList, ListIn, MapIn, ArrayIn}
use Rattle.amqp_types.specs.declared.fault.ReadFault.{ReadFault}
use Rattle.amqp_types.specs.declared.fault.ReadFault.TheVariants.{UnknownCode, BadSize, BadCount, BadText, BadSymbol, BadChar, BadBoolean, DuplicateKey, TooDeep, TooManyNodes, NoMemory}
use Rattle.amqp_types.specs.declared.window.Window.{Window}
use Rattle.amqp_types.specs.InHand.{outermost, place, Budget}
use Rattle.amqp_types.specs.Kinds.{width, is_container}
use Rattle.amqp_types.specs.Codes.{find_code, kind_of}
use Rattle.amqp_types.specs.Spelling.{sign_extended, size_len}
use Rattle.amqp_types.specs.Trees.{Tree, Number, Octets, ListOf, MapOf, ArrayOf, Described, Trees, none, more, Pairs, no_pair, pair}
use Rattle.amqp_types.specs.Images.{has_key}

-- what is read, and the bytes after it
abbrev pub Read : Type 0 → Type 0
Read A = Result (A × List ℕ) ReadFault

infixl 10 ◌>>=◌
abbrev pub ◌>>=◌ : {A B : Type 0} → Result A ReadFault → (A → Result B ReadFault) → Result B ReadFault
(Ok x) >>= f = f x
(Err e) >>= f = Err e

-- what a call returned, seen through `view`, is what reading gives
abbrev pub Is : {X Y : Type 0} → (X → Y) → Result X ReadFault → Result Y ReadFault → Type 0
Is view (Ok x) read = read ≡ Ok (view x)
Is view (Err e) read = read ≡ Err e

-- what a call that may be refused memory returned, seen through `view`, is what reading gives
abbrev pub Gives : {X Y : Type 0} → (X → Y) → Result X ReadFault → Result Y ReadFault → Type 0
Gives view (Ok x) read = read ≡ Ok (view x)
Gives view (Err e) read = (e ≡ NoMemory) ⊎ (read ≡ Err e)

-- the next n bytes
abbrev pub octets_at : Window → ℕ → List ℕ → Read (List ℕ)
octets_at w n bytes = if nat_lt (length bytes) n then Err w.short else Ok (take n bytes, drop n bytes)

-- the number in the next n bytes
abbrev pub big_at : Window → ℕ → List ℕ → Read ℕ
big_at w n bytes = if nat_lt (length bytes) n then Err w.short else Ok (big_number n bytes, drop n bytes)

abbrev pub unless : {A : Type 0} → Option ReadFault → A → Result A ReadFault
unless None x = Ok x
unless (Some fault) x = Err fault

-- what is wrong with a number of the kind whose data begin at the place
abbrev pub number_fault : Kind → ℕ → ℕ → Option ReadFault
number_fault kind.Boolean at n = if nat_lt n 2 then None else Some (BadBoolean at)
number_fault kind.Char at n = if scalar n then None else Some (BadChar at)
number_fault _ at n = None

-- a number of n bytes, in its form
unfoldable pub form_at : Window → Form → ℕ → List ℕ → Read ℕ
form_at w form.Zero n bytes = Ok (0, bytes)
form_at w form.One n bytes = Ok (1, bytes)
form_at w form.OneByte n bytes = big_at w 1 bytes
form_at w form.OneSigned n bytes = do
  byte ← big_at w 1 bytes
  Ok (sign_extended n byte.0, byte.1)
form_at w form.Full n bytes = big_at w n bytes

-- a number of the kind, in its form
unfoldable pub number_at : Window → Kind → Form → List ℕ → Read ℕ
number_at w k f bytes = do
  n ← form_at w f (width k) bytes
  unless (number_fault k (place w bytes) n.0) n

-- a byte that no symbol has
abbrev pub is_beyond_ascii : ℕ → Bool
is_beyond_ascii b = nat_le 128 b

-- what is wrong with the bytes of a value of the kind, which begin at the place
abbrev pub octets_fault : Kind → ℕ → List ℕ → Option ReadFault
octets_fault kind.String at octets = if is_utf8 octets then None else Some (BadText (at + utf8_valid_len octets))
octets_fault kind.Symbol at octets = option_map (λ n. BadSymbol (at + n)) (position is_beyond_ascii octets)
octets_fault _ at octets = None

-- a size, and the bytes of a value of variable width after it
unfoldable pub sized_at : Window → Kind → SizeWidth → List ℕ → Read (List ℕ)
sized_at w k s bytes = do
  n ← big_at w (size_len s) bytes
  octets ← octets_at w n.0 n.1
  unless (octets_fault k (place w n.1) octets.0) octets

-- what is read, the nodes left, and the bytes after it
abbrev pub Part : Type 0 → Type 0
Part A = Result (A × Budget × List ℕ) ReadFault

abbrev pub charge : Budget → ℕ → ℕ → Result Budget ReadFault
charge None n at = Ok None
charge (Some left) n at = if nat_lt left n then Err (TooManyNodes at) else Ok (Some (left - n))

-- the bytes that a size counts, with their window, and the bytes after them
pub record Block : Type 0 where
  pub within : Window
  pub body : List ℕ
  pub behind : List ℕ

-- the block of a size: its parts end where it does, and what reaches past it is a bad size
abbrev pub block_of : Window → List ℕ → List ℕ × List ℕ → Block
block_of w bytes parts =
    record { within = record { short = BadSize (place w bytes); end = place w parts.1 }; body = parts.0; behind = parts.1 }

unfoldable pub block_at : Window → SizeWidth → ℕ → List ℕ → Result Block ReadFault
block_at w s least bytes = do
  size ← big_at w (size_len s) bytes
  if nat_lt size.0 least then Err (BadSize (place w bytes)) else (octets_at w size.0 size.1 >>= λ parts. Ok (block_of w bytes parts))

-- the count of a block's parts; a map's is even
unfoldable pub count_at : Window → SizeWidth → Bool → List ℕ → Read ℕ
count_at w s paired bytes = do
  count ← big_at w (size_len s) bytes
  if paired && (count.0 % 2 == 1) then Err (BadCount (place w bytes)) else Ok count

-- what is left of the nodes after a part
abbrev pub behind : Budget → Budget → Budget
behind None left = None
behind (Some n) left = left

-- how values are read with a number of levels of depth left
pub record Level : Type 0 where
  -- the value at the front, which is charged this many nodes at its constructor
  pub value : Window → ℕ → Budget → List ℕ → Part Tree
  -- the data after a constructor
  pub item : Constructor → Window → Budget → List ℕ → Part Tree
  -- whether a container may begin there
  pub holds : Bool

-- as many values as the count says, one after the other
unfoldable pub trees_at : (Window → Budget → List ℕ → Part Tree) → ℕ → Window → Budget → List ℕ → Part Trees
trees_at one zero w budget bytes = Ok (none, budget, bytes)
trees_at one (suc n) w budget bytes = do
  first ← one w budget bytes
  others ← trees_at one n w (behind budget first.1) first.2
  Ok (more first.0 others.0, others.1, others.2)

-- the key at the place is not equal to one before it
abbrev pub distinct : {A : Type 0} → Budget → Trees → Tree → ℕ → A → Result A ReadFault
distinct None seen key at x = Ok x
distinct (Some left) seen key at x = if has_key key seen then Err (DuplicateKey at) else Ok x

-- keys and values in turn, after these keys
unfoldable pub pairs_at : Level → Trees → ℕ → Window → Budget → List ℕ → Part Pairs
pairs_at level seen zero w budget bytes = Ok (no_pair, budget, bytes)
pairs_at level seen (suc n) w budget bytes = do
  read ← level.value w 0 budget bytes
  key ← distinct budget seen read.0 (place w bytes) read
  value ← level.value w 0 (behind budget key.1) key.2
  others ← pairs_at level (more key.0 seen) n w (behind budget value.1) value.2
  Ok (pair key.0 value.0 others.0, others.1, others.2)

-- nothing is left in the block
abbrev pub ended : {A : Type 0} → Window → List ℕ → A → Result A ReadFault
ended w [] x = Ok x
ended w (b ∷ bytes) x = Err w.short

-- the items of an array: their descriptors and their constructor
pub record Head : Type 0 where
  pub descriptors : Trees
  pub constructor : Constructor

abbrev pub with_descriptor : Tree → Head → Head
with_descriptor d head = record { descriptors = more d head.descriptors; constructor = head.constructor }

-- the constructor of a code at the place, if the depth left allows it
abbrev pub allowed : ℕ → Bool → Option Constructor → Result Constructor ReadFault
allowed at holds None = Err (UnknownCode at)
allowed at holds (Some c) = if is_container (kind_of c) && not holds then Err (TooDeep at) else Ok c

-- an array's element constructor: 00 and a descriptor, as often as they stand there, then a code
unfoldable pub head_at : ℕ → Level → Window → Budget → List ℕ → Part Head
head_at fuel level w budget [] = Err w.short
head_at zero level w budget (code ∷ rest) = Err w.short
head_at (suc fuel) level w budget (code ∷ rest) =
    if code == 0 then (do
      left ← charge budget 1 (place w (code ∷ rest))
      descriptor ← level.value w 0 left rest
      head ← head_at fuel level w (behind budget descriptor.1) descriptor.2
      Ok (with_descriptor descriptor.0 head.0, head.1, head.2))
    else (do
      c ← allowed (place w (code ∷ rest)) level.holds (find_code code)
      Ok (record { descriptors = none; constructor = c }, budget, rest))

unfoldable pub list_at : Level → Window → SizeWidth → Budget → List ℕ → Part Tree
list_at level w s budget bytes = do
  block ← block_at w s (size_len s) bytes
  count ← count_at block.within s false block.body
  left ← charge budget count.0 (place block.within block.body)
  items ← trees_at (λ within. level.value within 0) count.0 block.within left count.1
  ended block.within items.2 (ListOf items.0, items.1, block.behind)

unfoldable pub map_at : Level → Window → SizeWidth → Budget → List ℕ → Part Tree
map_at level w s budget bytes = do
  block ← block_at w s (size_len s) bytes
  count ← count_at block.within s true block.body
  left ← charge budget count.0 (place block.within block.body)
  entries ← pairs_at level none (count.0 / 2) block.within left count.1
  ended block.within entries.2 (MapOf entries.0, entries.1, block.behind)

unfoldable pub array_at : Level → Window → SizeWidth → Budget → List ℕ → Part Tree
array_at level w s budget bytes = do
  block ← block_at w s (size_len s + 1) bytes
  count ← count_at block.within s false block.body
  left ← charge budget count.0 (place block.within block.body)
  head ← head_at (length count.1) level block.within left count.1
  items ← trees_at (level.item head.0.constructor) count.0 block.within (behind budget head.1) head.2
  ended block.within items.2 (ArrayOf head.0.descriptors (kind_of head.0.constructor) items.0, items.1, block.behind)

-- a value that holds no others charges nothing
abbrev pub uncharged : {A : Type 0} → Budget → Read A → (A → Tree) → Part Tree
uncharged budget read tree = read >>= λ x. Ok (tree x.0, budget, x.1)

-- the data after a constructor, with what is inside read as `inner` says; None if no depth is left
unfoldable pub item_by : Option Level → Constructor → Window → Budget → List ℕ → Part Tree
item_by inner (Fixed k f) w budget bytes = uncharged budget (number_at w k f bytes) (Number k)
item_by inner (Variable k s) w budget bytes = uncharged budget (sized_at w k s bytes) (Octets k)
item_by inner EmptyList w budget bytes = Ok (ListOf none, budget, bytes)
item_by None (ListIn s) w budget bytes = Err w.short
item_by None (MapIn s) w budget bytes = Err w.short
item_by None (ArrayIn s) w budget bytes = Err w.short
item_by (Some level) (ListIn s) w budget bytes = list_at level w s budget bytes
item_by (Some level) (MapIn s) w budget bytes = map_at level w s budget bytes
item_by (Some level) (ArrayIn s) w budget bytes = array_at level w s budget bytes

-- a descriptor and the value that it describes, after the 00 at the place
unfoldable pub described_at : Option Level → ℕ → Window → ℕ → Budget → List ℕ → Part Tree
described_at None at w due budget bytes = Err (TooDeep at)
described_at (Some level) at w due budget bytes = do
  left ← charge budget (due + 2) at
  descriptor ← level.value w 0 left bytes
  value ← level.value w 0 (behind budget descriptor.1) descriptor.2
  Ok (Described descriptor.0 value.0, value.1, value.2)

-- the value at the front, which is charged this many nodes at its constructor
unfoldable pub value_by : Option Level → Window → ℕ → Budget → List ℕ → Part Tree
value_by inner w due budget [] = Err w.short
value_by inner w due budget (code ∷ rest) =
    if code == 0 then described_at inner (place w (code ∷ rest)) w due budget rest
    else (do
      c ← allowed (place w (code ∷ rest)) (is_some inner) (find_code code)
      left ← charge budget due (place w (code ∷ rest))
      item_by inner c w left rest)

abbrev pub level_by : Option Level → Level
level_by inner = record { value = value_by inner; item = item_by inner; holds = is_some inner }

-- how values inside a container are read, if this many levels of depth are left with it
unfoldable pub inside : ℕ → Option Level
inside zero = None
inside (suc depth) = Some (level_by (inside depth))

-- what is left of the bytes, if the value itself is of no interest
abbrev pub after : {A : Type 0} → Part A → Result (List ℕ) ReadFault
after read = read >>= λ x. Ok x.2

-- the value that the bytes begin with, within a depth and a number of nodes
abbrev pub value_of : ℕ → Budget → List ℕ → Part Tree
value_of depth nodes bytes = value_by (inside depth) (outermost bytes) 1 nodes bytes
