use Rattle.std.proofs.Common.{arith}
use Rattle.byteorder.specs.Numbers.{big_from-lt}
use Rattle.amqp_types.proofs.window.Window.big.Goals as goal

pub returns-clause-fits : goal.returns-clause-fits
returns-clause-fits c = rw c.front_number.ensures (big_from-lt 0 c.args.n c.args.bytes.now (λ k. omega (arith, c.type_inv.bytes k)))
