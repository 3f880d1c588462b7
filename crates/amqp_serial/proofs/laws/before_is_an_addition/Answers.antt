use Rattle.std.proofs.Common.{sym, arith}
use Rattle.amqp_serial.specs.Numbers.{distance_of}
use Rattle.amqp_serial.proofs.Rounds.{sum-distance}
use Rattle.amqp_serial.proofs.laws.before_is_an_addition.Goals as goal

pub returns : goal.returns
returns c = (
  λ h. (distance_of c.args.a.0 c.args.b.0, h.0, h.1, sym (sum-distance c.args.a.0 c.args.b.0 (omega arith) (omega arith))),
  λ (n, above, below, e). (omega (arith, above, below, e), omega (arith, above, below, e)),
)
