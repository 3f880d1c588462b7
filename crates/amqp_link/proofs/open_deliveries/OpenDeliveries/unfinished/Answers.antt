use Rattle.std.proofs.Common.{sym, ap, ◌∙◌}
use Rattle.std.specs.Prelude.{option_map}
use Rattle.amqp_link.specs.Links.{OpenSet}
use Rattle.amqp_link.specs.Keeping.{at_key}
use Rattle.amqp_link.proofs.Keys.{lent}
use Rattle.amqp_link.proofs.KeptPlaces.{here_of}
use Rattle.amqp_link.proofs.open_deliveries.OpenDeliveries.unfinished.Goals as goal

pub returns-in-Some : goal.returns-in-Some
returns-in-Some g c =
    lent c.self.inside.slab c.in-Some.key c.get.result c.get.ensures (here_of c.self.inside.slab _ _ _ c.in-Some.key _ _ c.self.invariant c.in-Some.is)
    ∙ sym (ap (option_map (at_key c.self.inside.slab)) c.in-Some.is) ∙ ap (λ (o : OpenSet). o.unfinished) c.self.view_is
