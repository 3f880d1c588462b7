use Rattle.std.proofs.Common.{arith}
use Rattle.amqp_endpoint.proofs.Endpoints.{held_few}
use Rattle.amqp_endpoint.proofs.endpoint.fields_listed.Goals as goal

pub overflow_add-result : goal.overflow_add-result
overflow_add-result g c =
    let s = c.endpoint.inside.input in
    let few = held_few s.limit s.stage s.filled c.endpoint.invariant.least c.endpoint.invariant.held in
    omega (arith, few, c.endpoint.invariant.most, c.len.ensures, c.len-2.ensures.most)

pub overflow_add-result-2 : goal.overflow_add-result-2
overflow_add-result-2 g c =
    let s = c.endpoint.inside.input in
    let few = held_few s.limit s.stage s.filled c.endpoint.invariant.least c.endpoint.invariant.held in
    omega (arith, few, c.endpoint.invariant.most, c.len.ensures, c.len-2.ensures.most, c.held.ensures.most)
