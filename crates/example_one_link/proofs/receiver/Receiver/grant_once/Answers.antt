use Rattle.std.proofs.Common.{arith}
use Rattle.amqp_endpoint.specs.Runs.{InSession, Accepted, Refused}
use Rattle.amqp_session.specs.Calls.{Grant}
use Rattle.example_one_link.proofs.Counts.{counted_on}
use Rattle.example_one_link.proofs.receiver.Receiver.grant_once.Goals as goal

pub invariant_of-self : goal.invariant_of-self
invariant_of-self g c =
    let r = c.self.inside in
    let n = c.min-credit.result in
    (counted_on c.uses_are_counted.ensures.goes_on c.uses_are_bounded.ensures.config r.endpoint c.grant.new.self r.credit r.granted r.got n r.got (InSession 0 (Grant 0 n)) Accepted
    c.self.invariant tt c.in-Ok.ensures (omega (arith, c.if-self-gt0.false)) (omega arith) (omega (arith, c.min-credit.ensures))).counted

pub invariant_of-self-in-Err : goal.invariant_of-self-in-Err
invariant_of-self-in-Err g c =
    let r = c.self.inside in
    (counted_on c.uses_are_counted.ensures.goes_on c.uses_are_bounded.ensures.config r.endpoint c.grant.new.self r.credit r.granted r.got r.granted r.got
    (InSession 0 (Grant 0 c.min-credit.result)) (Refused c.in-Err.field-0) c.self.invariant tt c.in-Err.ensures (omega arith) (omega arith) c.self.invariant.most).counted
