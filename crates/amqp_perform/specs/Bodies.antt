-- What the body of a frame says. [2.7]
use Rattle.std.specs.Prelude.{◌≡◌, ℕ, ◌≤◌, List, ◌++◌, None, Some}
use Rattle.amqp_types.specs.Misreading.{AValue, Misread}
use Rattle.amqp_types.specs.InHand.{outermost}
use Rattle.amqp_types.specs.Spelling.{Spells}
use Rattle.amqp_types.specs.Trees.{Tree, ListOf, depth_of}
use Rattle.amqp_perform.specs.declared.descriptor.Descriptor.{Descriptor}
use Rattle.amqp_perform.specs.declared.fault.BodyFault.{BodyFault}
use Rattle.amqp_perform.specs.declared.fault.BodyFault.TheVariants.{Decode, InvalidField}
use Rattle.amqp_perform.specs.declared.performative.Performative.{Performative}
use Rattle.amqp_perform.specs.Items.{Item, trees_of, SpellsDescribed}
use Rattle.amqp_perform.specs.Tables.{Field, fields_of}
use Rattle.amqp_perform.specs.Cells.{Cell, cells_of}
use Rattle.amqp_perform.specs.Performatives.{type_of, performative_cells}

-- The bytes begin with a list that is described as a performative; by the table of the performative its
-- items are these cells; and the payload follows. The list and its descriptor take two levels of the 32 that
-- a body may have.
abbrev pub BodyOf : List ℕ → Descriptor → List Cell → List ℕ → Type 0
BodyOf bytes d cells payload =
    (fields : List Field) × (items : List Item) × (text : List ℕ) × (fields_of d ≡ Some fields) × (bytes ≡ text ++ payload)
    × SpellsDescribed d items text × (depth_of (ListOf (trees_of items)) ≤ 31) × (cells_of fields items ≡ Some cells)

-- the bytes begin with this performative, and the payload follows
abbrev pub Body : List ℕ → Performative → List ℕ → Type 0
Body bytes p payload = BodyOf bytes (type_of p) (performative_cells p) payload

-- the bytes begin with a value within the depth
abbrev pub BeginsWithin : ℕ → List ℕ → Type 0
BeginsWithin depth bytes = (t : Tree) × (text rest : List ℕ) × Spells t text × (depth_of t ≤ depth) × (bytes ≡ text ++ rest)

-- the bytes begin with a value within the depth, and with no performative
pub record IsInvalid (bytes : List ℕ) : Type 0 where
  pub spelled : BeginsWithin 32 bytes
  pub none : (d : Descriptor) (cells : List Cell) (payload : List ℕ) → BodyOf bytes d cells payload → ⊥

-- why the bytes begin with no performative: a value that is misspelled or too deep comes first
abbrev pub IsFaultOf : List ℕ → BodyFault → Type 0
IsFaultOf bytes (Decode e) = Misread (AValue 1) 32 (outermost bytes) None bytes e
IsFaultOf bytes InvalidField = IsInvalid bytes
