-- A performative by what its fields hold, without where it lies in memory, and its canonical frame. [2.3.1, 2.7]
use Rattle.std.specs.Prelude.{◌≡◌, ℕ, List, [], Some}
use Rattle.std.specs.Option.{unwrap_or}
use Rattle.amqp_perform.specs.declared.descriptor.Descriptor.{Descriptor}
use Rattle.amqp_perform.specs.declared.performative.Performative.{Performative}
use Rattle.amqp_perform.specs.Again.{AreOfFields}
use Rattle.amqp_perform.specs.Cells.{Cell}
use Rattle.amqp_perform.specs.Frames.{field_texts, described_text, list_frame, written_cells}
use Rattle.amqp_perform.specs.Performatives.{type_of}
use Rattle.amqp_perform.specs.Tables.{Field, fields_of}

pub record Said : Type 0 where
  pub type : Descriptor
  pub cells : List Cell

-- what is written for a performative in memory
abbrev pub said : Performative → Said
said p = record { type = type_of p; cells = written_cells p }

-- the spellings of its fields
abbrev pub said_texts : Said → List (List ℕ)
said_texts s = field_texts (unwrap_or (fields_of s.type) []) s.cells

-- its canonical spelling
abbrev pub said_text : Said → List ℕ
said_text s = described_text s.type (said_texts s)

-- its canonical frame with a payload after it
abbrev pub said_frame : ℕ → Said → List ℕ → List ℕ
said_frame channel s payload = list_frame channel s.type (said_texts s) payload

-- it is a performative, and each field holds what the field may hold
pub record MayBeSaid (s : Said) : Type 0 where
  pub fields : List Field
  pub table : fields_of s.type ≡ Some fields
  pub each : AreOfFields fields s.cells
