use Rattle.std.proofs.Common.{arith}
use Rattle.amqp_types.proofs.shape.octets_shape.Goals as goal

pub returns-clause-ranged : goal.returns-clause-ranged
returns-clause-ranged c = (c.requires.kind, λ i. omega (arith, c.type_inv.octets i), c.requires.of_kind)
