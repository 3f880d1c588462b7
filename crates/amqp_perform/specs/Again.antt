-- What the fields of a performative may hold, so that what is written is read again. [2.7]
use Rattle.std.specs.Prelude.{◌≡◌, ◌≤◌, false, List, [], ◌∷◌, Some}
use Rattle.amqp_types.specs.Canonical.{IsRanged}
use Rattle.amqp_types.specs.Spelling.{Spells}
use Rattle.amqp_types.specs.Trees.{Tree, Number, Octets, depth_of}
use Rattle.amqp_perform.specs.Cells.{Cell, Absent, Whole, Bytes, Span, value_cell, is_null}
use Rattle.amqp_perform.specs.Frames.{kind_of_field}
use Rattle.amqp_perform.specs.Tables.{spanned, optional, Field}

-- The field may hold such a cell: a number or bytes of its type, or a span that spells a value other than
-- null within the depth of a body.
abbrev pub IsOfField : Field → Cell → Type 0
IsOfField f Absent = f.absence ≡ optional
IsOfField f (Whole n) = IsRanged (Number (kind_of_field f.type) n) × (value_cell f.type (Number (kind_of_field f.type) n) [] ≡ Some (Whole n))
IsOfField f (Bytes octets) = IsRanged (Octets (kind_of_field f.type) octets) × (value_cell f.type (Octets (kind_of_field f.type) octets) [] ≡ Some (Bytes octets))
IsOfField f (Span text) = (f.type ≡ spanned) × (t : Tree) × Spells t text × (depth_of t ≤ 30) × (is_null t ≡ false)

-- each cell is one that the field in its place may hold
abbrev pub AreOfFields : List Field → List Cell → Type 0
AreOfFields [] [] = Unit {0}
AreOfFields [] (c ∷ cs) = ⊥
AreOfFields (f ∷ fs) [] = ⊥
AreOfFields (f ∷ fs) (c ∷ cs) = IsOfField f c × AreOfFields fs cs
