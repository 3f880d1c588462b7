use Rattle.std.proofs.Common.{arith, length, ap, ◌∙◌}
use Rattle.amqp_link.specs.Links.{OpenSet}
use Rattle.amqp_link.proofs.KeptPlaces.{ready_places}
use Rattle.amqp_link.proofs.open_deliveries.OpenDeliveries.ready.Goals as goal

pub returns : goal.returns
returns g c =
    let same = ready_places c.self.inside.slab _ _ _ _ _ c.self.invariant ∙ ap (λ (o : OpenSet). length o.ready) c.self.view_is in
    omega (arith, same, c.len.ensures, c.self.inside.order.ok.0)
