use Rattle.std.proofs.Common.{arith}
use Rattle.amqp_endpoint.specs.Endpoints.{accepted_by}
use Rattle.amqp_endpoint.specs.Runs.{InSession}
use Rattle.amqp_perform.specs.declared.outcome.Outcome.TheVariants.{Accepted}
use Rattle.amqp_session.specs.Calls.{Settle}
use Rattle.example_one_link.proofs.Counts.{counted_on, settle_adds}
use Rattle.example_one_link.proofs.receiver.Receiver.settle.Goals as goal

pub invariant_of-self : goal.invariant_of-self
invariant_of-self g c =
    let r = c.self.inside in
    let none = settle_adds c.args.taken.now.delivery_id Accepted c.settle.result in
    (counted_on c.uses_are_counted.ensures.goes_on c.uses_are_bounded.ensures.config r.endpoint c.settle.new.self r.credit r.granted r.got r.granted r.got
    (InSession 0 (Settle c.args.taken.now.delivery_id Accepted)) (accepted_by c.settle.result) c.self.invariant c.is_id.ensures c.settle.ensures (omega (arith, none.0)) (omega (arith, none.1))
    c.self.invariant.most).counted
