-- The codes of the constructors. [1.2; 1.6]
use Rattle.std.specs.Prelude.{◌≡◌, ◌≢◌, ℕ, false, ◌==◌, ◌<◌, ◌≤◌, List, [], ◌∷◌, Option, None}
use Rattle.std.specs.Map.{lookup}
use Rattle.amqp_types.specs.declared.kind.Kind.{Kind}
use Rattle.amqp_types.specs.declared.kind.Kind.TheVariants as kind
use Rattle.amqp_types.specs.declared.code.Constructor.{Constructor}
use Rattle.amqp_types.specs.declared.code.Constructor.TheVariants.{Fixed, Variable, EmptyList, ListIn, MapIn, ArrayIn}
use Rattle.amqp_types.specs.declared.code.Form.{Form}
use Rattle.amqp_types.specs.declared.code.Form.TheVariants as form
use Rattle.amqp_types.specs.declared.code.SizeWidth.TheVariants as size
use Rattle.amqp_types.specs.Kinds.{fixed_width, width, is_container}

-- each code with the kind that it makes, and the form of the data after it
abbrev pub constructors : List (ℕ × Constructor)
constructors =
    (0x40, Fixed kind.Null form.Full) ∷
    (0x41, Fixed kind.Boolean form.One) ∷
    (0x42, Fixed kind.Boolean form.Zero) ∷
    (0x56, Fixed kind.Boolean form.Full) ∷
    (0x50, Fixed kind.Ubyte form.Full) ∷
    (0x60, Fixed kind.Ushort form.Full) ∷
    (0x43, Fixed kind.Uint form.Zero) ∷
    (0x52, Fixed kind.Uint form.OneByte) ∷
    (0x70, Fixed kind.Uint form.Full) ∷
    (0x44, Fixed kind.Ulong form.Zero) ∷
    (0x53, Fixed kind.Ulong form.OneByte) ∷
    (0x80, Fixed kind.Ulong form.Full) ∷
    (0x51, Fixed kind.Byte form.Full) ∷
    (0x61, Fixed kind.Short form.Full) ∷
    (0x54, Fixed kind.Int form.OneSigned) ∷
    (0x71, Fixed kind.Int form.Full) ∷
    (0x55, Fixed kind.Long form.OneSigned) ∷
    (0x81, Fixed kind.Long form.Full) ∷
    (0x72, Fixed kind.Float form.Full) ∷
    (0x82, Fixed kind.Double form.Full) ∷
    (0x74, Fixed kind.Decimal32 form.Full) ∷
    (0x84, Fixed kind.Decimal64 form.Full) ∷
    (0x94, Fixed kind.Decimal128 form.Full) ∷
    (0x73, Fixed kind.Char form.Full) ∷
    (0x83, Fixed kind.Timestamp form.Full) ∷
    (0x98, Fixed kind.Uuid form.Full) ∷
    (0xa0, Variable kind.Binary size.One) ∷
    (0xb0, Variable kind.Binary size.Four) ∷
    (0xa1, Variable kind.String size.One) ∷
    (0xb1, Variable kind.String size.Four) ∷
    (0xa3, Variable kind.Symbol size.One) ∷
    (0xb3, Variable kind.Symbol size.Four) ∷
    (0x45, EmptyList) ∷
    (0xc0, ListIn size.One) ∷
    (0xd0, ListIn size.Four) ∷
    (0xc1, MapIn size.One) ∷
    (0xd1, MapIn size.Four) ∷
    (0xe0, ArrayIn size.One) ∷
    (0xf0, ArrayIn size.Four) ∷
    []

-- the constructor that a code stands for
abbrev pub find_code : ℕ → Option Constructor
find_code code = lookup (λ c. code == c) constructors

-- a number of n bytes has room for the form
abbrev pub HasRoom : Form → ℕ → Type 0
HasRoom form.Zero n = Unit {0}
HasRoom form.Full n = Unit {0}
HasRoom _ n = 1 ≤ n

-- what every row of the table has: a kind of fixed width with room for the form, or one of variable width
abbrev pub FitsItsKind : Constructor → Type 0
FitsItsKind (Fixed k f) = (fixed_width k ≢ None) × HasRoom f (width k) × (8 < width k → f ≡ form.Full)
FitsItsKind (Variable k s) = (fixed_width k ≡ None) × (is_container k ≡ false)
FitsItsKind EmptyList = Unit {0}
FitsItsKind (ListIn s) = Unit {0}
FitsItsKind (MapIn s) = Unit {0}
FitsItsKind (ArrayIn s) = Unit {0}

-- the kind that a constructor makes
abbrev pub kind_of : Constructor → Kind
kind_of (Fixed k f) = k
kind_of (Variable k s) = k
kind_of EmptyList = kind.List
kind_of (ListIn s) = kind.List
kind_of (MapIn s) = kind.Map
kind_of (ArrayIn s) = kind.Array
