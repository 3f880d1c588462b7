-- Each answer fits the room that is kept for it.
use Rattle.std.proofs.Common.{arith, ℕ, ◌+◌, ◌≤◌, Bool, true, false, List, [], ◌∷◌, length, Option, Some, None}
use Rattle.std.specs.Prelude.{sum_by, if◌then◌else◌, unwrap_or}
use Rattle.std.specs.List.{concat}
use Rattle.std.proofs.lemmas.List.{length-append}
use Rattle.std.proofs.lemmas.List.Sums.{sum_by-cons}
use Rattle.amqp_types.specs.declared.kind.Kind.{Kind}
use Rattle.amqp_types.specs.declared.kind.Kind.TheVariants as kind
use Rattle.amqp_types.specs.declared.shell.Short.{Short}
use Rattle.amqp_types.specs.declared.shell.Short.TheVariants as short
use Rattle.amqp_types.specs.Canonical.{number_text, short_form}
use Rattle.amqp_perform.specs.Cells.{Cell, Absent, Whole, Bytes, Span}
use Rattle.amqp_perform.specs.Frames.{null_text, kind_of_field, cell_text, is_default, field_text, field_texts}
use Rattle.amqp_perform.specs.Said.{Said, said_texts, said_frame}
use Rattle.amqp_perform.specs.Tables.{FieldType, Absence, mandatory, optional, default, Field, fields_of}
use Rattle.amqp_endpoint.specs.Lengths.{cell_most, said_most}

-- the law of how long a binary, a string or a symbol is
abbrev pub Octets : Type 0
Octets = (type : FieldType) (octets : List ℕ) → length (cell_text type (Bytes octets)) ≤ 5 + length octets

-- that of how long a frame is
abbrev pub Frames : Type 0
Frames = (channel : ℕ) (s : Said) (payload : List ℕ) → length (said_frame channel s payload) ≤ 20 + length (concat (said_texts s)) + length payload

-- a number takes at most 17 bytes
pub number_long : (k : Kind) (n : ℕ) (o : Option Short) → length (number_text k n o) ≤ 17
number_long k n (Some (short.Code code)) = omega arith
number_long k n (Some (short.Byte code byte)) = omega arith
number_long kind.Null n None = omega arith
number_long _ n None = omega arith

cell_long : Octets → (type : FieldType) (c : Cell) → length (cell_text type c) ≤ cell_most c
cell_long law type Absent = omega arith
cell_long law type (Whole n) = number_long (kind_of_field type) n (short_form (kind_of_field type) n)
cell_long law type (Bytes octets) = law type octets
cell_long law type (Span text) = omega arith

-- a default is one byte, and only a number is one
field_long : Octets → (f : Field) (c : Cell) → length (field_text f c) ≤ cell_most c
field_long law f Absent = by_test (is_default f.absence Absent)
  where
    by_test : (b : Bool) → length (if b then null_text else cell_text f.type Absent) ≤ cell_most Absent
    by_test true = omega arith
    by_test false = omega arith
field_long law f (Whole n) = by_test (is_default f.absence (Whole n))
  where
    by_test : (b : Bool) → length (if b then null_text else cell_text f.type (Whole n)) ≤ cell_most (Whole n)
    by_test true = omega arith
    by_test false = cell_long law f.type (Whole n)
field_long law f (Bytes octets) = by_test (is_default f.absence (Bytes octets))
  where
    by_test : (b : Bool) → length (if b then null_text else cell_text f.type (Bytes octets)) ≤ cell_most (Bytes octets)
    by_test true = omega arith
    by_test false = cell_long law f.type (Bytes octets)
field_long law f (Span text) = plain f.absence
  where
    plain : (a : Absence) → length (if is_default a (Span text) then null_text else text) ≤ length text
    plain mandatory = omega arith
    plain optional = omega arith
    plain (default n) = omega arith

fields_long : Octets → (fs : List Field) (cs : List Cell) → length (concat (field_texts fs cs)) ≤ sum_by cell_most cs
fields_long law [] cs = omega arith
fields_long law (f ∷ fs) [] = omega arith
fields_long law (f ∷ fs) (c ∷ cs) = omega (arith, field_long law f c, fields_long law fs cs, length-append (field_text f c) (concat (field_texts fs cs)), sum_by-cons cell_most c cs)

-- a frame takes no more than its fields may
pub said_long : Octets → Frames → (channel : ℕ) (s : Said) → length (said_frame channel s []) ≤ said_most s
said_long octets frames channel s = omega (arith, frames channel s [], fields_long octets (unwrap_or (fields_of s.type) []) s.cells)
