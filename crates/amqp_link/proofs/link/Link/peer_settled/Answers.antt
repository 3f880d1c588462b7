use Rattle.std.proofs.Common.{sym, subst}
use Rattle.amqp_link.specs.Links.{OpenSet}
use Rattle.amqp_link.specs.Keeping.{IsLink}
use Rattle.amqp_link.proofs.Bounds.{stays_for_sender}
use Rattle.amqp_link.proofs.link.Link.peer_settled.Goals as goal

pub invariant_of-self : goal.invariant_of-self
invariant_of-self g c =
    subst (λ (o : OpenSet). IsLink c.self.inside.terms c.self.inside.credit o) (sym c.settle_by_sender.ensures.new)
    (stays_for_sender c.self.inside.terms c.self.inside.credit c.self.inside.delivery_count c.self.inside.draining c.self.inside.deliveries c.args.first c.args.last c.self.invariant)
