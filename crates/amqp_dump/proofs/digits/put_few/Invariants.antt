use Rattle.std.proofs.Common.{◌≡◌}
use Rattle.amqp_dump.proofs.digits.put_few.Given as goal

abbrev pub invariant-loop-four : goal.invariant-loop-four
invariant-loop-four l = l.out.whole ≡ l.fn.out.whole
