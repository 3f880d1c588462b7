use Rattle.std.proofs.Common.{◌≡◌, ◌++◌}
use Rattle.std.specs.List.{flat_map}
use Rattle.amqp_records.specs.Lines.{ascii_of}
use Rattle.amqp_records.proofs.ascii.put_ascii.Given as goal

abbrev pub invariant-loop-c : goal.invariant-loop-c
invariant-loop-c l = l.line.items ≡ l.fn.line.items ++ flat_map ascii_of l.yielded
