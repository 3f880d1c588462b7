-- What the fields of a table may hold, whatever the table is. [1.4, 2.7]
use Rattle.std.specs.Prelude.{◌≡◌, ℕ, ◌⊎◌, Bool, true, false, not, ◌&&◌, if◌then◌else◌, is_some, List, [], ◌∷◌, Option, Some}
use Rattle.amqp_perform.specs.declared.rules.FieldType.TheVariants as in_code
use Rattle.amqp_perform.specs.declared.rules.FieldType.{FieldType as DeclaredType}
use Rattle.amqp_perform.specs.declared.rules.Rule.{Rule}
use Rattle.amqp_perform.specs.declared.rules.Rule.TheVariants.{Mandatory, Optional}
use Rattle.amqp_perform.specs.BodyReading.{typed_at}
use Rattle.amqp_perform.specs.Cells.{Cell, Absent, ◌>>=◌, is_null, value_cell}
use Rattle.amqp_perform.specs.Items.{Item}
use Rattle.amqp_perform.specs.Tables.{FieldType, boolean, sender_settle_mode, receiver_settle_mode, ushort, uint, uint_from, binary, string, spanned, Absence, mandatory, Field}

-- what a field may be, and whether it has to be there
abbrev pub Asked : Type 0
Asked = FieldType × Bool

abbrev pub is_mandatory : Absence → Bool
is_mandatory mandatory = true
is_mandatory _ = false

-- what a field of a table may be, and whether it has to be there
abbrev pub asked_of : Field → Asked
asked_of f = (f.type, is_mandatory f.absence)

-- the type that a field in the code may be
abbrev pub type_in : DeclaredType → FieldType
type_in in_code.Boolean = boolean
type_in in_code.SenderSettleMode = sender_settle_mode
type_in in_code.ReceiverSettleMode = receiver_settle_mode
type_in in_code.Ushort = ushort
type_in in_code.Uint = uint
type_in in_code.FrameSize = uint_from 512
type_in in_code.Binary = binary
type_in in_code.Text = string
type_in in_code.Any = spanned

abbrev pub asked_by : Rule → Asked
asked_by (Mandatory t) = (type_in t, true)
asked_by (Optional t) = (type_in t, false)

-- the code of a string, or of a null [1.6.1; 1.6.20]
abbrev pub IsTextCode : ℕ → Type 0
IsTextCode code = (code ≡ 0x40) ⊎ ((code ≡ 0xa1) ⊎ (code ≡ 0xb1))

-- whether a field is there
abbrev pub is_there : Cell → Bool
is_there Absent = false
is_there _ = true

-- whether the value at the front, which is of the type, is there, and what follows it
abbrev pub there_at : FieldType → List ℕ → Option (Bool × List ℕ)
there_at type bytes = typed_at type 1 bytes >>= λ read. Some (is_there read.0, read.2)

-- whether such a field may hold an item
abbrev pub may_be : Asked → Item → Bool
may_be asked x = if is_null x.tree then not asked.1 else is_some (value_cell asked.0 x.tree x.text)

-- whether such fields may hold these items, one after the other, with no item left
abbrev pub may_be_all : List Asked → List Item → Bool
may_be_all [] [] = true
may_be_all [] (x ∷ xs) = false
may_be_all (asked ∷ others) [] = not asked.1 && may_be_all others []
may_be_all (asked ∷ others) (x ∷ xs) = may_be asked x && may_be_all others xs
