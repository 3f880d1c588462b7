-- The kinds of values, and the widths of those of fixed width. [1.6]
use Rattle.std.specs.Prelude.{ℕ, Bool, true, false, Option, Some, None}
use Rattle.std.specs.Option.{unwrap_or}
use Rattle.amqp_types.specs.declared.kind.Kind.{Kind}
use Rattle.amqp_types.specs.declared.kind.Kind.TheVariants as kind

-- how many bytes a fixed-width kind's full form has; None for a kind of variable width
abbrev pub fixed_width : Kind → Option ℕ
fixed_width kind.Null = Some 0
fixed_width kind.Boolean = Some 1
fixed_width kind.Ubyte = Some 1
fixed_width kind.Ushort = Some 2
fixed_width kind.Uint = Some 4
fixed_width kind.Ulong = Some 8
fixed_width kind.Byte = Some 1
fixed_width kind.Short = Some 2
fixed_width kind.Int = Some 4
fixed_width kind.Long = Some 8
fixed_width kind.Float = Some 4
fixed_width kind.Double = Some 8
fixed_width kind.Decimal32 = Some 4
fixed_width kind.Decimal64 = Some 8
fixed_width kind.Decimal128 = Some 16
fixed_width kind.Char = Some 4
fixed_width kind.Timestamp = Some 8
fixed_width kind.Uuid = Some 16
fixed_width kind.Binary = None
fixed_width kind.String = None
fixed_width kind.Symbol = None
fixed_width kind.List = None
fixed_width kind.Map = None
fixed_width kind.Array = None

abbrev pub width : Kind → ℕ
width kind = unwrap_or (fixed_width kind) 0

-- whether some data of the kind's full form are not valid [1.6.2, 1.6.16]
abbrev pub is_partial : Kind → Bool
is_partial kind.Boolean = true
is_partial kind.Char = true
is_partial _ = false

-- whether values of the kind may hold others
abbrev pub is_container : Kind → Bool
is_container kind.List = true
is_container kind.Map = true
is_container kind.Array = true
is_container _ = false
