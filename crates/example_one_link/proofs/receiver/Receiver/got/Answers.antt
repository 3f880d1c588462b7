use Rattle.std.proofs.Common.{arith, ap}
use Rattle.example_one_link.specs.Counted.{ReceiverState}
use Rattle.example_one_link.proofs.receiver.Receiver.got.Goals as goal

pub returns-clause-most : goal.returns-clause-most
returns-clause-most g c =
    let x = c.self.invariant in
    let r = c.self.inside in
    omega (arith, c.uses_are_bounded.ensures.messages r.endpoint.connection.config 0 0 r.granted r.got r.endpoint x.used, x.most, ap (λ (s : ReceiverState). s.credit) c.self.view_is)
