use Rattle.std.proofs.Common.{◌≡◌, ◌++◌, take}
use Rattle.std.specs.List.{flat_map}
use Rattle.amqp_records.specs.Lines.{unit_escape}
use Rattle.amqp_records.proofs.ascii.put_escapes.Given as goal

abbrev pub invariant-loop-unit : goal.invariant-loop-unit
invariant-loop-unit l = l.line.items ≡ l.fn.line.items ++ flat_map unit_escape (take l.unit-index l.unit-items)
