use Rattle.std.proofs.Common.{◌≡◌, ◌≤◌, length, take}
use Rattle.amqp_perform.specs.Frames.{field_spellings, trimmed}
use Rattle.amqp_perform.proofs.writer.used_count.Given as goal

abbrev pub invariant-loop-count : goal.invariant-loop-count
invariant-loop-count l = record {
  bound : l.count ≤ length l.values;
  used : trimmed (field_spellings l.values) ≡ trimmed (field_spellings (take l.count l.values));
}

abbrev pub decreases-loop-count : goal.decreases-loop-count
decreases-loop-count l = l.count
