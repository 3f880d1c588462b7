use Rattle.std.proofs.Common.{arith}
use Rattle.amqp_types.proofs.Fronts.{checked_is}
use Rattle.amqp_types.proofs.checker.check_front.Goals as goal

pub returns-clause-exact : goal.returns-clause-exact
returns-clause-exact c =
    checked_is c.args.limits.depth c.args.limits.nodes c.in_ok-rest.field-0-0 c.args.bytes.now c.in_ok-rest.rest.now (λ k. omega (arith, c.type_inv.bytes k))
    (rw c.of.ensures at c.in_ok-rest.ensures.read)
