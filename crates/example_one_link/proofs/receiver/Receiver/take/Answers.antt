use Rattle.std.proofs.Common.{arith, ◌+◌}
use Rattle.amqp_endpoint.specs.Endpoints.{handed_in}
use Rattle.amqp_endpoint.specs.Runs.{InSession, HandedUp}
use Rattle.amqp_session.specs.Calls.{Take}
use Rattle.example_one_link.proofs.Counts.{counted_on}
use Rattle.example_one_link.proofs.receiver.Receiver.take.Goals as goal

pub invariant_of-self : goal.invariant_of-self
invariant_of-self g c =
    let r = c.self.inside in
    (counted_on c.uses_are_counted.ensures.goes_on c.uses_are_bounded.ensures.config r.endpoint c.take.new.self r.credit r.granted r.got r.granted (r.got + 1) (InSession 0 (Take 0))
    (HandedUp (handed_in c.in-Ok.taken)) c.self.invariant tt c.in-Ok.ensures (omega arith) (omega arith) c.self.invariant.most).counted

pub overflow_add-self : goal.overflow_add-self
overflow_add-self g c =
    let r = c.self.inside in
    let x = counted_on c.uses_are_counted.ensures.goes_on c.uses_are_bounded.ensures.config r.endpoint c.take.new.self r.credit r.granted r.got r.granted (r.got + 1) (InSession 0 (Take 0))
    (HandedUp (handed_in c.in-Ok.taken)) c.self.invariant tt c.in-Ok.ensures (omega arith) (omega arith) c.self.invariant.most in
    omega (arith, c.uses_are_bounded.ensures.messages c.take.new.self.connection.config 0 0 r.granted (r.got + 1) c.take.new.self x.counted.used, x.counted.most, c.self.ranges)
