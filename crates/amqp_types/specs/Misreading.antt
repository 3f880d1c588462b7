-- What is wrong with the front of bytes, in the words of the spelling: up to a place the parts are spelled as
-- values are, and what stands there has the fault. What a spelling is comes from [1.2]; the names, the places
-- and the order of the faults are our own (docs/PROTOCOL.md).
use Rattle.std.specs.Prelude.{◌≡◌, ◌≢◌, ℕ, suc, ◌+◌, ◌-◌, ◌%◌, ◌/◌, ◌<◌, ◌≤◌, ◌⊎◌, true, List, [], ◌∷◌, ◌++◌, length, take, slice_index, Some, None}
use Rattle.std.specs.Str.{IsAscii, IsValidUpTo}
use Rattle.byteorder.specs.Endian.{big_number}
use Rattle.amqp_types.specs.declared.kind.Kind.{Kind}
use Rattle.amqp_types.specs.declared.kind.Kind.TheVariants as kind
use Rattle.amqp_types.specs.declared.code.Form.{Form}
use Rattle.amqp_types.specs.declared.code.SizeWidth.{SizeWidth}
use Rattle.amqp_types.specs.declared.code.Constructor.{Constructor}
use Rattle.amqp_types.specs.declared.code.Constructor.TheVariants.{Fixed, Variable, EmptyList, ListIn, MapIn, ArrayIn}
use Rattle.amqp_types.specs.declared.fault.ReadFault.{ReadFault}
use Rattle.amqp_types.specs.declared.fault.ReadFault.TheVariants.{UnknownCode, BadSize, BadCount, BadText, BadSymbol, BadChar, BadBoolean, DuplicateKey, TooDeep, TooManyNodes}
use Rattle.amqp_types.specs.declared.window.Window.{Window}
use Rattle.amqp_types.specs.Kinds.{width, is_container}
use Rattle.amqp_types.specs.Codes.{find_code, kind_of}
use Rattle.amqp_types.specs.Trees.{Tree, Trees, none, more, IsLawful, depth_of, nodes_in}
use Rattle.amqp_types.specs.Spelling.{form_len, size_len, Spells, SpellsNumber, SpellsOctets, SpellsBlock, IsNumberOf}
use Rattle.amqp_types.specs.InHand.{Budget, place}

-- ---- what is left of depth and nodes

-- nodes are counted, and keys are compared
abbrev pub IsCounted : Budget → Type 0
IsCounted None = ⊥
IsCounted (Some left) = Unit {0}

-- at least n nodes are left; fewer than n are left
abbrev pub Enough : Budget → ℕ → Type 0
Enough None n = Unit {0}
Enough (Some left) n = n ≤ left

abbrev pub IsShort : Budget → ℕ → Type 0
IsShort None n = ⊥
IsShort (Some left) n = left < n

-- what is left after n nodes are charged
abbrev pub spend : Budget → ℕ → Budget
spend None n = None
spend (Some left) n = Some (left - n)

-- a container needs a level of depth
abbrev pub MayStand : Constructor → ℕ → Type 0
MayStand c depth = is_container (kind_of c) ≡ true → 1 ≤ depth

-- The value is within the depth and the nodes that are left, and it is lawful if keys are compared.
pub record IsWithin (depth : ℕ) (budget : Budget) (t : Tree) : Type 0 where
  pub deep : depth_of t ≤ depth
  pub few : Enough budget (nodes_in t)
  pub lawful : IsCounted budget → IsLawful t

-- ---- data

-- the bytes end before the size field does; or the size is at least `least`, and they end before what it counts
abbrev pub EndsInSized : SizeWidth → ℕ → List ℕ → Type 0
EndsInSized s least bytes =
    (length bytes < size_len s) ⊎ ((least ≤ big_number (size_len s) bytes) × (length bytes < size_len s + big_number (size_len s) bytes))

-- the bytes end before the data of the constructor does
abbrev pub EndsInside : Constructor → List ℕ → Type 0
EndsInside (Fixed k f) bytes = length bytes < form_len f (width k)
EndsInside (Variable k s) bytes = EndsInSized s 0 bytes
EndsInside EmptyList bytes = ⊥
EndsInside (ListIn s) bytes = EndsInSized s (size_len s) bytes
EndsInside (MapIn s) bytes = EndsInSized s (size_len s) bytes
EndsInside (ArrayIn s) bytes = EndsInSized s (size_len s + 1) bytes

-- the size at the front is too small for a count, or for an array's count and element constructor
abbrev pub IsBelow : SizeWidth → ℕ → List ℕ → Type 0
IsBelow s least bytes = (size_len s ≤ length bytes) × (big_number (size_len s) bytes < least)

abbrev pub IsTooSmall : Constructor → List ℕ → Type 0
IsTooSmall (ListIn s) bytes = IsBelow s (size_len s) bytes
IsTooSmall (MapIn s) bytes = IsBelow s (size_len s) bytes
IsTooSmall (ArrayIn s) bytes = IsBelow s (size_len s + 1) bytes
IsTooSmall _ bytes = ⊥

-- the number is not valid for the kind, and which fault that is
abbrev pub NumberFault : Kind → ℕ → ℕ → ReadFault → Type 0
NumberFault kind.Boolean at n fault = (2 ≤ n) × (fault ≡ BadBoolean at)
NumberFault kind.Char at n fault = (IsNumberOf kind.Char n → ⊥) × (fault ≡ BadChar at)
NumberFault _ at n fault = ⊥

-- the bytes are not valid for the kind: the fault is after the longest valid text, or at the first byte from 0x80
abbrev pub OctetsFault : Kind → ℕ → List ℕ → ReadFault → Type 0
OctetsFault kind.String at octets fault = (n : ℕ) × IsValidUpTo octets n × (fault ≡ BadText (at + n))
OctetsFault kind.Symbol at octets fault = (n : ℕ) × (n < length octets) × IsAscii (take n octets) × (128 ≤ slice_index octets n) × (fault ≡ BadSymbol (at + n))
OctetsFault _ at octets fault = ⊥

-- The bytes begin with a block of `count` parts, whose count field is at the place; the parts end where the block
-- does, and what reaches past it is a bad size. More bytes may follow it.
pub record IsBlockOf (w : Window) (s : SizeWidth) (count : ℕ) (parts bytes : List ℕ) (within : Window) (at : ℕ) : Type 0 where
  pub text : List ℕ
  pub others : List ℕ
  pub whole : bytes ≡ text ++ others
  pub spelled : SpellsBlock s count parts text
  pub inner : within ≡ record { short = BadSize (place w bytes); end = place w others }
  pub count_place : at ≡ within.end - (size_len s + length parts)

-- the constructor may have such a block: an array's parts have at least one byte, and a map's count is even
abbrev pub IsHolder : Constructor → SizeWidth → ℕ → List ℕ → Type 0
IsHolder (ListIn s) size count parts = size ≡ s
IsHolder (MapIn s) size count parts = (size ≡ s) × (count % 2 ≡ 0)
IsHolder (ArrayIn s) size count parts = (size ≡ s) × (1 ≤ length parts)
IsHolder _ size count parts = ⊥

-- ---- keys

-- the key is one of these
abbrev pub IsAmong : Tree → Trees → Type 0
IsAmong key none = ⊥
IsAmong key (more t ts) = (t ≡ key) ⊎ IsAmong key ts

-- the key is none of these, if keys are compared
abbrev pub IsNewKey : Budget → Tree → Trees → Type 0
IsNewKey budget key seen = IsCounted budget → IsAmong key seen → ⊥

-- ---- values

-- what should be at the front
pub data Sought : Type 0 where
  -- a value that is charged this many nodes
  AValue : ℕ → Sought
  -- the data after a constructor
  DataOf : Constructor → Sought
  -- this many values, and then the end
  Values : ℕ → Sought
  -- this many keys, none of them among these, each with its value, and then the end
  Entries : Trees → ℕ → Sought
  -- an array's element constructor, this many items, and then the end
  Elements : ℕ → Sought
  -- the data of this many items after an element constructor, and then the end
  Items : ℕ → ℕ → Sought

-- a constructor's code comes first
abbrev pub OpensWithCode : Sought → Type 0
OpensWithCode (AValue due) = Unit {0}
OpensWithCode (Elements n) = Unit {0}
OpensWithCode _ = ⊥

-- nothing more should be there
abbrev pub IsDone : Sought → Type 0
IsDone (Values n) = n ≡ 0
IsDone (Entries seen n) = n ≡ 0
IsDone (Items element n) = n ≡ 0
IsDone _ = ⊥

-- what the parts of a container's block are
abbrev pub parts_of : Constructor → ℕ → Sought
parts_of (MapIn s) count = Entries none (count / 2)
parts_of (ArrayIn s) count = Elements count
parts_of _ count = Values count

-- What is sought is not there: up to a place the bytes spell it, and what is at that place has the fault.
pub data Misread : Sought → ℕ → Window → Budget → List ℕ → ReadFault → Type 0 where
  -- nothing is there
  nothing : {sought : Sought} {depth : ℕ} {w : Window} {budget : Budget} → OpensWithCode sought → Misread sought depth w budget [] w.short
  -- bytes are left over
  left_over : {sought : Sought} {depth : ℕ} {w : Window} {budget : Budget} {byte : ℕ} {rest : List ℕ} → IsDone sought
      → Misread sought depth w budget (byte ∷ rest) w.short
  -- no constructor has the code
  unknown_code : {sought : Sought} {depth : ℕ} {w : Window} {budget : Budget} {code : ℕ} {rest : List ℕ} → OpensWithCode sought → code ≢ 0 → find_code code ≡ None
      → Misread sought depth w budget (code ∷ rest) (UnknownCode (place w (code ∷ rest)))
  -- a container begins, and no depth is left
  too_deep : {sought : Sought} {w : Window} {budget : Budget} {code : ℕ} {rest : List ℕ} (c : Constructor) → OpensWithCode sought → find_code code ≡ Some c → is_container (kind_of c) ≡ true
      → Misread sought 0 w budget (code ∷ rest) (TooDeep (place w (code ∷ rest)))
  too_deep_described : {due : ℕ} {w : Window} {budget : Budget} {rest : List ℕ} → Misread (AValue due) 0 w budget (0 ∷ rest) (TooDeep (place w (0 ∷ rest)))
  -- fewer nodes are left than are charged: at a constructor, or at the 00 of a described value or of a descriptor
  too_many : {due depth : ℕ} {w : Window} {budget : Budget} {code : ℕ} {rest : List ℕ} (c : Constructor) → find_code code ≡ Some c → MayStand c depth → IsShort budget due
      → Misread (AValue due) depth w budget (code ∷ rest) (TooManyNodes (place w (code ∷ rest)))
  too_many_described : {due depth : ℕ} {w : Window} {budget : Budget} {rest : List ℕ} → IsShort budget (due + 2)
      → Misread (AValue due) (suc depth) w budget (0 ∷ rest) (TooManyNodes (place w (0 ∷ rest)))
  too_many_descriptors : {n depth : ℕ} {w : Window} {budget : Budget} {rest : List ℕ} → IsShort budget 1
      → Misread (Elements n) depth w budget (0 ∷ rest) (TooManyNodes (place w (0 ∷ rest)))
  -- the data after the constructor are bad
  bad_data : {due depth : ℕ} {w : Window} {budget : Budget} {code : ℕ} {rest : List ℕ} {fault : ReadFault} (c : Constructor) → find_code code ≡ Some c → MayStand c depth → Enough budget due
      → Misread (DataOf c) depth w (spend budget due) rest fault
      → Misread (AValue due) depth w budget (code ∷ rest) fault
  -- the descriptor is bad, or it is spelled and what it describes is bad
  bad_descriptor : {due depth : ℕ} {w : Window} {budget : Budget} {rest : List ℕ} {fault : ReadFault} → Enough budget (due + 2)
      → Misread (AValue 0) depth w (spend budget (due + 2)) rest fault
      → Misread (AValue due) (suc depth) w budget (0 ∷ rest) fault
  bad_described : {due depth : ℕ} {w : Window} {budget : Budget} {bytes : List ℕ} {fault : ReadFault} (t : Tree) (text rest : List ℕ) → Enough budget (due + 2)
      → bytes ≡ text ++ rest → Spells t text → IsWithin depth (spend budget (due + 2)) t
      → Misread (AValue 0) depth w (spend (spend budget (due + 2)) (nodes_in t)) rest fault
      → Misread (AValue due) (suc depth) w budget (0 ∷ bytes) fault
  -- the bytes end inside the data
  ends_inside : {c : Constructor} {depth : ℕ} {w : Window} {budget : Budget} {bytes : List ℕ} → EndsInside c bytes
      → Misread (DataOf c) depth w budget bytes w.short
  -- the data give a number that is not valid for the kind
  no_number : {k : Kind} {f : Form} {depth : ℕ} {w : Window} {budget : Budget} {bytes : List ℕ} {fault : ReadFault} (n : ℕ) (text rest : List ℕ)
      → bytes ≡ text ++ rest → SpellsNumber f (width k) n text → NumberFault k (place w bytes) n fault
      → Misread (DataOf (Fixed k f)) depth w budget bytes fault
  -- the data are bytes that are not valid for the kind
  no_octets : {k : Kind} {s : SizeWidth} {depth : ℕ} {w : Window} {budget : Budget} {bytes : List ℕ} {fault : ReadFault} (octets text rest : List ℕ)
      → bytes ≡ text ++ rest → SpellsOctets s octets text → OctetsFault k (place w (octets ++ rest)) octets fault
      → Misread (DataOf (Variable k s)) depth w budget bytes fault
  -- the size is too small
  too_small : {c : Constructor} {depth : ℕ} {w : Window} {budget : Budget} {bytes : List ℕ} → IsTooSmall c bytes
      → Misread (DataOf c) (suc depth) w budget bytes (BadSize (place w bytes))
  -- a map has a key without a value
  odd_count : {s : SizeWidth} {depth : ℕ} {w : Window} {budget : Budget} {bytes : List ℕ} (count : ℕ) (parts : List ℕ) (within : Window) (at : ℕ) → IsBlockOf w s count parts bytes within at →
      count % 2 ≡ 1
      → Misread (DataOf (MapIn s)) (suc depth) w budget bytes (BadCount at)
  -- fewer nodes are left than the count
  too_many_parts : {c : Constructor} {depth : ℕ} {w : Window} {budget : Budget} {bytes : List ℕ} (s : SizeWidth) (count : ℕ) (parts : List ℕ) (within : Window) (at : ℕ) → IsHolder c s count parts →
      IsBlockOf w s count parts bytes within at → IsShort budget count
      → Misread (DataOf c) (suc depth) w budget bytes (TooManyNodes at)
  -- the parts are bad
  bad_parts : {c : Constructor} {depth : ℕ} {w : Window} {budget : Budget} {bytes : List ℕ} {fault : ReadFault} (s : SizeWidth) (count : ℕ) (parts : List ℕ) (within : Window) (at : ℕ) →
      IsHolder c s count parts → IsBlockOf w s count parts bytes within at → Enough budget count
      → Misread (parts_of c count) depth within (spend budget count) parts fault
      → Misread (DataOf c) (suc depth) w budget bytes fault
  -- the first value is bad, or it is spelled and a later one is bad
  bad_value : {n depth : ℕ} {w : Window} {budget : Budget} {bytes : List ℕ} {fault : ReadFault}
      → Misread (AValue 0) depth w budget bytes fault
      → Misread (Values (suc n)) depth w budget bytes fault
  bad_later_value : {n depth : ℕ} {w : Window} {budget : Budget} {bytes : List ℕ} {fault : ReadFault} (t : Tree) (text rest : List ℕ)
      → bytes ≡ text ++ rest → Spells t text → IsWithin depth budget t
      → Misread (Values n) depth w (spend budget (nodes_in t)) rest fault
      → Misread (Values (suc n)) depth w budget bytes fault
  -- the key is bad, or equal to an earlier one, or its value is bad, or both are spelled and a later entry is bad
  bad_key : {seen : Trees} {n depth : ℕ} {w : Window} {budget : Budget} {bytes : List ℕ} {fault : ReadFault}
      → Misread (AValue 0) depth w budget bytes fault
      → Misread (Entries seen (suc n)) depth w budget bytes fault
  equal_key : {seen : Trees} {n depth : ℕ} {w : Window} {budget : Budget} {bytes : List ℕ} (key : Tree) (text rest : List ℕ)
      → bytes ≡ text ++ rest → Spells key text → IsWithin depth budget key → IsCounted budget → IsAmong key seen
      → Misread (Entries seen (suc n)) depth w budget bytes (DuplicateKey (place w bytes))
  bad_entry : {seen : Trees} {n depth : ℕ} {w : Window} {budget : Budget} {bytes : List ℕ} {fault : ReadFault} (key : Tree) (text rest : List ℕ)
      → bytes ≡ text ++ rest → Spells key text → IsWithin depth budget key → IsNewKey budget key seen
      → Misread (AValue 0) depth w (spend budget (nodes_in key)) rest fault
      → Misread (Entries seen (suc n)) depth w budget bytes fault
  bad_later_entry : {seen : Trees} {n depth : ℕ} {w : Window} {budget : Budget} {bytes : List ℕ} {fault : ReadFault} (key value : Tree) (first second rest : List ℕ)
      → bytes ≡ first ++ (second ++ rest) → Spells key first → IsWithin depth budget key → IsNewKey budget key seen
      → Spells value second → IsWithin depth (spend budget (nodes_in key)) value
      → Misread (Entries (more key seen) n) depth w (spend (spend budget (nodes_in key)) (nodes_in value)) rest fault
      → Misread (Entries seen (suc n)) depth w budget bytes fault
  -- a descriptor is bad, or it is spelled and what comes after it is bad
  bad_array_descriptor : {n depth : ℕ} {w : Window} {budget : Budget} {rest : List ℕ} {fault : ReadFault} → Enough budget 1
      → Misread (AValue 0) depth w (spend budget 1) rest fault
      → Misread (Elements n) depth w budget (0 ∷ rest) fault
  bad_elements : {n depth : ℕ} {w : Window} {budget : Budget} {bytes : List ℕ} {fault : ReadFault} (t : Tree) (text rest : List ℕ) → Enough budget 1
      → bytes ≡ text ++ rest → Spells t text → IsWithin depth (spend budget 1) t
      → Misread (Elements n) depth w (spend (spend budget 1) (nodes_in t)) rest fault
      → Misread (Elements n) depth w budget (0 ∷ bytes) fault
  -- the items after the element constructor are bad: the first, or a later one
  bad_items : {n depth : ℕ} {w : Window} {budget : Budget} {code : ℕ} {rest : List ℕ} {fault : ReadFault} (c : Constructor) → find_code code ≡ Some c → MayStand c depth
      → Misread (Items code n) depth w budget rest fault
      → Misread (Elements n) depth w budget (code ∷ rest) fault
  bad_item : {element n depth : ℕ} {w : Window} {budget : Budget} {bytes : List ℕ} {fault : ReadFault} (c : Constructor) → find_code element ≡ Some c
      → Misread (DataOf c) depth w budget bytes fault
      → Misread (Items element (suc n)) depth w budget bytes fault
  bad_later_item : {element n depth : ℕ} {w : Window} {budget : Budget} {bytes : List ℕ} {fault : ReadFault} (t : Tree) (text rest : List ℕ)
      → bytes ≡ text ++ rest → Spells t (element ∷ text) → IsWithin depth budget t
      → Misread (Items element n) depth w (spend budget (nodes_in t)) rest fault
      → Misread (Items element (suc n)) depth w budget bytes fault
