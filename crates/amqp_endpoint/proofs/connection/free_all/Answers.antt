use Rattle.amqp_session.specs.declared.slot.Slot.TheVariants.{Free}
use Rattle.std.proofs.lemmas.List.Edits.{map_over_more}
use Rattle.amqp_endpoint.proofs.connection.free_all.Goals as goal

pub loop-place-preserved : goal.loop-place-preserved
loop-place-preserved g c = record {
  places = map_over_more (λ x. Free) c.args.places.now c.loop-place.places c.loop-place.place-index c.place-item.result c.loop-place-test.true c.loop-place.invariant.places c.place-item.is;
}
