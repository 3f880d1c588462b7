use Rattle.std.proofs.Common.{arith, ap}
use Rattle.amqp_endpoint.specs.Uses.{held_by_any}
use Rattle.example_one_link.specs.Counted.{ReceiverState}
use Rattle.example_one_link.proofs.receiver.Receiver.held.Goals as goal

pub returns-clause-most : goal.returns-clause-most
returns-clause-most g c =
    let r = c.self.inside in
    omega (
      arith,
      c.held.ensures,
      c.uses_are_bounded.ensures.held r.endpoint.connection.config 0 0 r.granted r.got r.endpoint c.self.invariant.used,
      ap (λ (s : ReceiverState). held_by_any s.endpoint.connection.config) c.self.view_is,
    )
