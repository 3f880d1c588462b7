use Rattle.std.proofs.Common.{arith, ◌∙◌, ◌++◌, ap, [], ◌∷◌}
use Rattle.amqp_session.specs.declared.slot.Slot.TheVariants.{Free}
use Rattle.amqp_endpoint.proofs.Tables.{free_more}
use Rattle.amqp_endpoint.proofs.connection.free_places.Goals as goal

pub loop-added-preserved : goal.loop-added-preserved
loop-added-preserved g c = record {
  same = c.push_reserved.ensures.items ∙ ap (λ places. places ++ Free ∷ []) c.loop-added.invariant.same ∙ free_more c.loop-added._added;
  long = search (arith, c.push_reserved.ensures.len, c.loop-added.invariant.long);
  room = omega (arith, c.push_reserved.ensures.capacity, c.loop-added.invariant.room);
}
