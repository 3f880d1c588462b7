-- How long frames and fields are.
use Rattle.std.specs.Prelude.{◌≡◌, ℕ, ◌+◌, ◌<◌, ◌≤◌, List, [], ◌∷◌, ◌++◌, length}
use Rattle.std.specs.List.{concat}
use Rattle.amqp_perform.specs.declared.descriptor.Descriptor.{Descriptor}
use Rattle.amqp_perform.specs.Cells.{Whole, Bytes}
use Rattle.amqp_perform.specs.Frames.{null_text, cell_text, list_frame}
use Rattle.amqp_perform.specs.Said.{Said, said_texts, said_frame}
use Rattle.amqp_perform.specs.Tables.{FieldType, uint}

pub record Lengths : Type 0 where
  pub most : (channel : ℕ) (s : Said) (payload : List ℕ) → length (said_frame channel s payload) ≤ 20 + length (concat (said_texts s)) + length payload
  pub payload : (channel : ℕ) (s : Said) (payload : List ℕ) → length (said_frame channel s payload) ≡ length (said_frame channel s []) + length payload
  pub numbers : (n : ℕ) → length (cell_text uint (Whole n)) ≤ 5
  pub octets : (type : FieldType) (octets : List ℕ) → length (cell_text type (Bytes octets)) ≤ 5 + length octets

-- a field that is left out makes a frame no longer
abbrev pub NullIsLeast : Type 0
NullIsLeast =
    (channel : ℕ) (d : Descriptor) (before behind : List (List ℕ)) (text payload : List ℕ) → 0 < length text
    → length (list_frame channel d (before ++ null_text ∷ behind) payload) ≤ length (list_frame channel d (before ++ text ∷ behind) payload)
