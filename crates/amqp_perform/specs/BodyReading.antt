-- Reading a performative from left to right. If nothing is read, the grammar says why. [1.2]
use Rattle.std.specs.Prelude.{◌≡◌, ◌≢◌, ℕ, zero, suc, ◌-◌, ◌==◌, ◌&&◌, nat_le, false, if◌then◌else◌, List, [], ◌∷◌, length, take, drop, Option, Some, None, Result, Ok, Err}
use Rattle.std.specs.Result.{result_ok}
use Rattle.amqp_types.specs.declared.code.Constructor.{Constructor}
use Rattle.amqp_types.specs.declared.code.Constructor.TheVariants.{EmptyList, ListIn}
use Rattle.amqp_types.specs.declared.code.SizeWidth.{SizeWidth}
use Rattle.amqp_types.specs.Codes.{find_code}
use Rattle.amqp_types.specs.Spelling.{size_len}
use Rattle.amqp_types.specs.InHand.{outermost}
use Rattle.amqp_types.specs.Reading.{Part, after, block_at, count_at, value_of}
use Rattle.amqp_types.specs.Trees.{Tree}
use Rattle.amqp_types.specs.declared.fault.ReadFault.{ReadFault}
use Rattle.byteorder.specs.Endian.{big_number}
use Rattle.amqp_perform.specs.declared.descriptor.Descriptor.{Descriptor}
use Rattle.amqp_perform.specs.declared.fault.BodyFault.{BodyFault}
use Rattle.amqp_perform.specs.declared.fault.BodyFault.TheVariants.{Decode, InvalidField}
use Rattle.amqp_perform.specs.declared.fields.Fields.{Fields}
use Rattle.amqp_perform.specs.declared.performative.Performative.{Performative}
use Rattle.amqp_perform.specs.Cells.{Cell, Absent, ◌>>=◌, where_so, typed_cell, with_absence}
use Rattle.amqp_perform.specs.Descriptors.{described_by}
use Rattle.amqp_perform.specs.Items.{Item}
use Rattle.amqp_perform.specs.Performatives.{type_of, performative_cells}
use Rattle.amqp_perform.specs.Tables.{FieldType, Absence, Field, fields_of}

-- what a call that takes from a cursor returns, seen through `view`, is what reading gives, and it leaves the same
-- bytes
abbrev pub Takes : {X Y : Type 0} → (X → Y) → Option X → List ℕ → Option (Y × List ℕ) → Type 0
Takes view None left read = read ≡ None
Takes view (Some x) left read = read ≡ Some (view x, left)

-- the next byte, the next n bytes, and the number in the next four
abbrev pub byte_at : List ℕ → Option (ℕ × List ℕ)
byte_at [] = None
byte_at (b ∷ rest) = Some (b, rest)

abbrev pub octets_at : ℕ → List ℕ → Option (List ℕ × List ℕ)
octets_at n bytes = where_so (nat_le n (length bytes)) (take n bytes, drop n bytes)

abbrev pub word_at : List ℕ → Option (ℕ × List ℕ)
word_at bytes = where_so (nat_le 4 (length bytes)) (big_number 4 bytes, drop 4 bytes)

-- a size of one byte or of four, and as many bytes as it says [1.2.2]
abbrev pub short_at : List ℕ → Option (List ℕ × List ℕ)
short_at bytes = byte_at bytes >>= λ n. octets_at n.0 n.1

abbrev pub long_at : List ℕ → Option (List ℕ × List ℕ)
long_at bytes = word_at bytes >>= λ n. octets_at n.0 n.1

-- the code of the next item, and what is left; that of null if no item is left
abbrev pub code_at : ℕ → List ℕ → Option (ℕ × ℕ × List ℕ)
code_at zero bytes = Some (0x40, 0, bytes)
code_at (suc left) [] = None
code_at (suc left) (code ∷ rest) = Some (code, left, rest)

-- an item read from the bytes, and what is left of them
abbrev pub item_from : List ℕ → Part Tree → Option (Item × List ℕ)
item_from bytes (Ok x) = Some (record { tree = x.0; text = take (length bytes - length x.2) bytes }, x.2)
item_from bytes (Err e) = None

abbrev pub item_at : List ℕ → Option (Item × List ℕ)
item_at bytes = item_from bytes (value_of 30 None bytes)

-- the value of the next field, of the type; this many items are left
unfoldable pub typed_at : FieldType → ℕ → List ℕ → Option (Cell × ℕ × List ℕ)
typed_at type zero bytes = Some (Absent, 0, bytes)
typed_at type (suc left) bytes = item_at bytes >>= λ x. typed_cell type x.0 >>= λ c. Some (c, left, x.1)

abbrev pub value_at : FieldType → Absence → ℕ → List ℕ → Option (Cell × ℕ × List ℕ)
value_at type absence left bytes = typed_at type left bytes >>= λ x. with_absence absence x.0 >>= λ c. Some (c, x.1, x.2)

abbrev pub field_at : Field → ℕ → List ℕ → Option (Cell × ℕ × List ℕ)
field_at f left bytes = value_at f.type f.absence left bytes

abbrev pub fields_at : List Field → ℕ → List ℕ → Option (List Cell × ℕ × List ℕ)
fields_at [] left bytes = Some ([], left, bytes)
fields_at (f ∷ fs) left bytes =
    field_at f left bytes >>= λ x. fields_at fs x.1 x.2 >>= λ xs. Some (x.0 ∷ xs.0, xs.1, xs.2)

-- what a reader returns, seen through `view`, is what reading gives, and it leaves the same items and bytes
abbrev pub TakesFrom : {X Y : Type 0} → (X → Y) → (ℕ → List ℕ → Option (Y × ℕ × List ℕ)) → Fields → Fields → Option X → Type 0
TakesFrom view read old new None = read old.left old.items.bytes.now ≡ None
TakesFrom view read old new (Some x) = read old.left old.items.bytes.now ≡ Some (view x, new.left, new.items.bytes.now)

-- 00 and the descriptor of a list [1.2, 1.3]
abbrev pub descriptor_from : Part Tree → Option (Descriptor × List ℕ)
descriptor_from (Ok x) = described_by x.0 >>= λ d. Some (d, x.2)
descriptor_from (Err e) = None

unfoldable pub descriptor_at : List ℕ → Option (Descriptor × List ℕ)
descriptor_at [] = None
descriptor_at (code ∷ rest) = if code == 0 then descriptor_from (value_of 31 None rest) else None

-- a list: how many items it has, the bytes that spell them, and what follows [1.6.22]
pub record ListAt : Type 0 where
  pub count : ℕ
  pub items : List ℕ
  pub behind : List ℕ

-- the parts of a block, and what follows it [1.2.3]
abbrev pub block_in : SizeWidth → List ℕ → Option ListAt
block_in s bytes =
    result_ok (block_at (outermost bytes) s (size_len s) bytes) >>= λ block.
    result_ok (count_at block.within s false block.body) >>= λ count.
    Some (record { count = count.0; items = count.1; behind = block.behind })

abbrev pub list_by : Option Constructor → List ℕ → Option ListAt
list_by (Some EmptyList) bytes = Some (record { count = 0; items = []; behind = bytes })
list_by (Some (ListIn s)) bytes = block_in s bytes
list_by _ bytes = None

unfoldable pub list_at : List ℕ → Option ListAt
list_at [] = None
list_at (code ∷ rest) = list_by (find_code code) rest

-- what the bytes begin with: the type that describes a list, and the list
unfoldable pub described_at : List ℕ → Option (Descriptor × ListAt)
described_at bytes = descriptor_at bytes >>= λ d. list_at d.1 >>= λ list. Some (d.0, list)

-- the fields of a performative of the type, if they are all of the items
unfoldable pub performative_at : Descriptor → ℕ → List ℕ → Option (List Cell)
performative_at d left bytes =
    fields_of d >>= λ table. fields_at table left bytes >>= λ read. where_so (read.1 == 0 && (length read.2 == 0)) read.0

-- a performative in memory is what is read there
abbrev pub IsPerformativeAt : Descriptor → ℕ → List ℕ → Option Performative → Type 0
IsPerformativeAt d left bytes None = performative_at d left bytes ≡ None
IsPerformativeAt d left bytes (Some p) = (performative_at d left bytes ≡ Some (performative_cells p)) × (type_of p ≡ d)

-- the performative that the bytes begin with, as its cells, and what follows it
unfoldable pub body_at : List ℕ → Option (Descriptor × List Cell × List ℕ)
body_at bytes =
    described_at bytes >>= λ list.
    performative_at list.0 list.1.count list.1.items >>= λ cells.
    Some (list.0, cells, list.1.behind)

-- what is read is of another type, or nothing is read
abbrev pub IsOfOther : Descriptor → Option (Descriptor × List Cell × List ℕ) → Type 0
IsOfOther d None = Unit {0}
IsOfOther d (Some x) = x.0 ≢ d

-- why there is no performative: the value is misspelled or too deep, or else a field is invalid
abbrev pub fault_by : Result (List ℕ) ReadFault → BodyFault
fault_by (Err e) = Decode e
fault_by (Ok rest) = InvalidField

unfoldable pub fault_of : List ℕ → BodyFault
fault_of bytes = fault_by (after (value_of 32 None bytes))

-- what read_body returns for a body
abbrev pub IsRead : List ℕ → Result (Performative × ℕ) BodyFault → Type 0
IsRead bytes (Ok x) = body_at bytes ≡ Some (type_of x.0, performative_cells x.0, drop x.1 bytes)
IsRead bytes (Err e) = (body_at bytes ≡ None) × (e ≡ fault_of bytes)
