use Rattle.std.proofs.Common.{arith, ◌∙◌, ap}
use Rattle.amqp_session.specs.Slots.{padded}
use Rattle.amqp_session.proofs.Padded.{padded_push}
use Rattle.amqp_session.proofs.state.reach.Goals as goal

pub loop-added-preserved : goal.loop-added-preserved
loop-added-preserved g c = record {
  same = λ n. ap (padded n) c.push_reserved.ensures.items ∙ padded_push n c.loop-added.table.items ∙ c.loop-added.invariant.same n;
  long = search (arith, c.push_reserved.ensures.len, c.loop-added.invariant.long);
  room = omega (arith, c.push_reserved.ensures.capacity, c.loop-added.invariant.room);
}
