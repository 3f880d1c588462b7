-- The canonical frame of a performative. [2.3.1, 2.7]
use Rattle.std.specs.Prelude.{◌≡◌, ◌↔◌, ℕ, Bool, false, ◌+◌, ◌^◌, ◌<◌, ◌≤◌, ◌==◌, nat_lt, if◌then◌else◌, List, [], ◌∷◌, ◌++◌, length, take, drop, map, Option, Some, None, IsSome, IfSome, IfNone}
use Rattle.std.specs.List.{concat}
use Rattle.std.specs.Option.{unwrap_or}
use Rattle.std.specs.Str.{bytes_eq}
use Rattle.byteorder.specs.Endian.{big_bytes}
use Rattle.amqp_types.specs.declared.kind.Kind.{Kind}
use Rattle.amqp_types.specs.declared.kind.Kind.TheVariants as kind
use Rattle.amqp_types.specs.declared.shell.Shell.TheVariants as shell
use Rattle.amqp_types.specs.Canonical.{canonical, shortest}
use Rattle.amqp_types.specs.Trees.{Number, Octets}
use Rattle.amqp_perform.specs.declared.descriptor.Descriptor.{Descriptor}
use Rattle.amqp_perform.specs.declared.field_text.FieldText.{FieldText}
use Rattle.amqp_perform.specs.declared.field_text.FieldText.TheVariants as value
use Rattle.amqp_perform.specs.declared.performative.Performative.{Performative}
use Rattle.amqp_perform.specs.declared.performative.Performative.TheVariants as performative
use Rattle.amqp_perform.specs.declared.performative.Disposition.{Disposition}
use Rattle.amqp_perform.specs.Cells.{Cell, Absent, Whole, Bytes, Span}
use Rattle.amqp_perform.specs.Descriptors.{code_of}
use Rattle.amqp_perform.specs.Performatives.{flag, role, span, type_of, performative_cells}
use Rattle.amqp_perform.specs.Tables.{FieldType, boolean, ubyte_to, ushort, uint_from, binary, string, symbol, spanned, Absence, default, Field, fields_of}

abbrev pub null_text : List ℕ
null_text = 0x40 ∷ []

abbrev pub kind_of_field : FieldType → Kind
kind_of_field boolean = kind.Boolean
kind_of_field (ubyte_to most) = kind.Ubyte
kind_of_field ushort = kind.Ushort
kind_of_field (uint_from least) = kind.Uint
kind_of_field binary = kind.Binary
kind_of_field string = kind.String
kind_of_field symbol = kind.Symbol
kind_of_field spanned = kind.Null

-- The canonical spelling of what a field holds. A span is written as it is, even if it spells its own default or is not
-- the shortest.
abbrev pub cell_text : FieldType → Cell → List ℕ
cell_text type Absent = null_text
cell_text type (Whole n) = canonical (Number (kind_of_field type) n)
cell_text type (Bytes octets) = canonical (Octets (kind_of_field type) octets)
cell_text type (Span text) = text

abbrev pub is_default : Absence → Cell → Bool
is_default (default n) (Whole m) = m == n
is_default _ _ = false

-- a field that is equal to its default is null [1.4]
abbrev pub written_text : FieldType → Absence → Cell → List ℕ
written_text type absence c = if is_default absence c then null_text else cell_text type c

abbrev pub field_text : Field → Cell → List ℕ
field_text f c = written_text f.type f.absence c

abbrev pub field_texts : List Field → List Cell → List (List ℕ)
field_texts (f ∷ fs) (c ∷ cs) = field_text f c ∷ field_texts fs cs
field_texts _ _ = []

-- nulls at the end are left out [1.4]
abbrev pub before_nulls : List ℕ → List (List ℕ) → List (List ℕ)
before_nulls text [] = if bytes_eq text null_text then [] else text ∷ []
before_nulls text (next ∷ texts) = text ∷ next ∷ texts

abbrev pub trimmed : List (List ℕ) → List (List ℕ)
trimmed [] = []
trimmed (text ∷ texts) = before_nulls text (trimmed texts)

-- the list of items with these spellings [1.6.22]
abbrev pub list_text : List (List ℕ) → List ℕ
list_text texts = shortest (shell.List (length texts)) (concat texts)

-- a disposition's last is written if it is not the first [2.7.6]
abbrev pub last_written : ℕ → Option ℕ → Cell
last_written first None = Absent
last_written first (Some last) = if last == first then Absent else Whole last

abbrev pub disposition_written : Disposition → List Cell
disposition_written p =
    role p.role ∷ Whole p.first ∷ last_written p.first p.last ∷ flag p.settled ∷ span p.state.now ∷ span p.batchable.now ∷ []

abbrev pub written_cells : Performative → List Cell
written_cells (performative.Disposition p) = disposition_written p
written_cells p = performative_cells p

-- the spellings of a performative's fields
abbrev pub performative_texts : Performative → List (List ℕ)
performative_texts p = field_texts (unwrap_or (fields_of (type_of p)) []) (written_cells p)

-- bytes after a code and their size: the small code with a size of one byte, or the large one with a size of four [1.6.19 to
-- 1.6.21]
abbrev pub octets_text : ℕ → ℕ → List ℕ → List ℕ
octets_text small large octets =
    if nat_lt (length octets) 256 then small ∷ (big_bytes 1 (length octets) ++ octets) else large ∷ (big_bytes 4 (length octets) ++ octets)

-- the spelling of a field in memory
abbrev pub field_spelling : FieldText → List ℕ
field_spelling value.Null = null_text
field_spelling (value.Boolean b) = cell_text boolean (flag b)
field_spelling (value.Ubyte n) = canonical (Number kind.Ubyte n)
field_spelling (value.Ushort n) = canonical (Number kind.Ushort n)
field_spelling (value.Uint n) = canonical (Number kind.Uint n)
field_spelling (value.Binary octets) = canonical (Octets kind.Binary octets.now)
field_spelling (value.String octets) = canonical (Octets kind.String octets.now)
field_spelling (value.Span bytes) = bytes.now

abbrev pub field_spellings : List FieldText → List (List ℕ)
field_spellings xs = map field_spelling xs

-- fields that hold these numbers
abbrev pub number_values : List ℕ → List FieldText
number_values numbers = map (λ n. value.Uint n) numbers

-- `new` is `old` with the text written over it at a place
abbrev pub Writes : ℕ → List ℕ → List ℕ → List ℕ → Type 0
Writes at text old new = new ≡ take at old ++ (text ++ drop (at + length text) old)

-- the frame header: SIZE, DOFF 2, TYPE 0, the channel; then the body [2.3.1, 2.3.2]
abbrev pub frame_text : ℕ → List ℕ → List ℕ
frame_text channel body = big_bytes 4 (8 + length body) ++ (2 ∷ 0 ∷ big_bytes 2 channel) ++ body

-- the frame header, and the descriptor of the list
unfoldable pub head_text : ℕ → ℕ → Descriptor → List ℕ
head_text len channel d = big_bytes 4 len ++ (2 ∷ 0 ∷ big_bytes 2 channel) ++ (0 ∷ 0x53 ∷ code_of d ∷ [])

-- what comes before the items of a list of `count` items, which take `content` bytes [1.6.22]
unfoldable pub list_head : ℕ → ℕ → List ℕ
list_head count content =
    if count == 0 then 0x45 ∷ []
    else (if nat_lt content 255 then 0xc0 ∷ (big_bytes 1 (1 + content) ++ big_bytes 1 count) else 0xd0 ∷ (big_bytes 4 (4 + content) ++ big_bytes 4 count))

-- the descriptor, and the list of items with these spellings, without the nulls at the end [1.4]
unfoldable pub described_text : Descriptor → List (List ℕ) → List ℕ
described_text d texts = 0 ∷ (canonical (Number kind.Ulong (code_of d)) ++ list_text (trimmed texts))

-- the frame of such a list with a payload after it
unfoldable pub list_frame : ℕ → Descriptor → List (List ℕ) → List ℕ → List ℕ
list_frame channel d texts payload = frame_text channel (described_text d texts ++ payload)

-- the text has room in this many bytes, and its length in four
abbrev pub FitsFrame : List ℕ → ℕ → Type 0
FitsFrame text room = (length text ≤ room) × (length text < 2 ^ 32)

-- What writing the frame over the old bytes returns, and the new bytes: its length, and the frame at their front, if it
-- fits; else nothing and no change.
pub record IsWritten (frame : List ℕ) (result : Option ℕ) (old new : List ℕ) : Type 0 where
  pub written : IfSome result (λ n. (n ≡ length frame) × (new ≡ frame ++ drop n old))
  pub fits : IsSome result ↔ FitsFrame frame (length old)
  pub unchanged : IfNone result (new ≡ old)

-- the canonical spelling of a performative
abbrev pub performative_text : Performative → List ℕ
performative_text p = described_text (type_of p) (performative_texts p)

-- the canonical frame of a performative with a payload after it
abbrev pub frame_of : ℕ → Performative → List ℕ → List ℕ
frame_of channel p payload = list_frame channel (type_of p) (performative_texts p) payload
