use Rattle.std.proofs.Common.{◌≡◌}
use Rattle.amqp_dump.proofs.digits.put_hex.Given as goal

abbrev pub invariant-loop-run : goal.invariant-loop-run
invariant-loop-run l = l.out.whole ≡ l.fn.out.whole
