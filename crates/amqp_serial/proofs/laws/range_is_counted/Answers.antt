use Rattle.std.proofs.Common.{sym, arith}
use Rattle.amqp_serial.specs.Numbers.{distance_of}
use Rattle.amqp_serial.proofs.Rounds.{sum-distance}
use Rattle.amqp_serial.proofs.laws.range_is_counted.Goals as goal

pub returns-clause-counted : goal.returns-clause-counted
returns-clause-counted c =
    λ near. (
      λ h. (distance_of c.args.first.0 c.args.x.0, h.1, sym (sum-distance c.args.first.0 c.args.x.0 (omega arith) (omega arith))),
      λ (k, below, e). (near, omega (arith, near, below, e)),
    )
