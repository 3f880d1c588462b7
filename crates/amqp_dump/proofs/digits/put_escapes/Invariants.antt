use Rattle.std.proofs.Common.{◌≡◌}
use Rattle.amqp_dump.proofs.digits.put_escapes.Given as goal

abbrev pub invariant-loop-index : goal.invariant-loop-index
invariant-loop-index l = l.out.whole ≡ l.fn.out.whole
