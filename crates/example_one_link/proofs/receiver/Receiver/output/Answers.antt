use Rattle.std.proofs.Common.{arith, length, take}
use Rattle.amqp_endpoint.specs.Runs.{Output, MovedOut}
use Rattle.example_one_link.proofs.Counts.{counted_on}
use Rattle.example_one_link.proofs.receiver.Receiver.output.Goals as goal

pub invariant_of-self : goal.invariant_of-self
invariant_of-self g c =
    let r = c.self.inside in
    (counted_on c.uses_are_counted.ensures.goes_on c.uses_are_bounded.ensures.config r.endpoint c.output.new.self r.credit r.granted r.got r.granted r.got (Output (length c.args.out.now))
    (MovedOut (take (length c.args.out.now) r.endpoint.unsent)) c.self.invariant tt c.output.ensures.moved (omega arith) (omega arith) c.self.invariant.most).counted
