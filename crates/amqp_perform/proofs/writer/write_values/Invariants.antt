use Rattle.std.proofs.Common.{◌≡◌, ℕ, ◌+◌, List, length, drop}
use Rattle.std.specs.List.{concat}
use Rattle.amqp_perform.specs.Frames.{field_spellings, Writes}
use Rattle.amqp_perform.proofs.writer.write_values.Given as goal

-- what is left, once it is written, is written with what was
abbrev pub invariant-loop-value : goal.invariant-loop-value
invariant-loop-value l = record {
  place : l.end + length (concat (field_spellings (drop l.value-index l.values))) ≡ l.at + length (concat (field_spellings l.values));
  room : length l.out ≡ length l.initial.out;
  written : (new : List ℕ) → Writes l.end (concat (field_spellings (drop l.value-index l.values))) l.out new → Writes l.at (concat (field_spellings l.values)) l.initial.out new;
}
