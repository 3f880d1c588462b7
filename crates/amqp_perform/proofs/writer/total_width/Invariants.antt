use Rattle.std.proofs.Common.{◌≡◌, ◌+◌, length, drop}
use Rattle.std.specs.List.{concat}
use Rattle.amqp_perform.specs.Frames.{field_spellings}
use Rattle.amqp_perform.proofs.writer.total_width.Given as goal

abbrev pub invariant-loop-value : goal.invariant-loop-value
invariant-loop-value l = l.left + length (concat (field_spellings l.values)) ≡ l.room + length (concat (field_spellings (drop l.value-index l.values)))
