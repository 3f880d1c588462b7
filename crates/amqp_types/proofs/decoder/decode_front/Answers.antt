use Rattle.std.proofs.Common.{arith, Some}
use Rattle.amqp_types.specs.Values.{view}
use Rattle.amqp_types.proofs.Fronts.{decoded_is}
use Rattle.amqp_types.proofs.decoder.decode_front.Goals as goal

pub returns-clause-exact : goal.returns-clause-exact
returns-clause-exact c =
    decoded_is c.args.limits.depth c.args.limits.nodes c.args.bytes.now (view c.in_ok-value.value) (Some c.in_ok-value.field-0-1) c.in_ok-value.rest.now (λ k. omega (arith, c.type_inv.bytes k))
    (rw c.of.ensures at c.in_ok-value.ensures.read)
