use Rattle.std.proofs.Common.{◌≡◌, None, sym, ap, subst, ◌∙◌}
use Rattle.amqp_link.specs.Links.{LinkState, OpenSet, open_set, settle_fault}
use Rattle.amqp_link.specs.Keeping.{IsLink}
use Rattle.amqp_link.proofs.Bounds.{stays_for_receiver}
use Rattle.amqp_link.proofs.link.Link.settle_faultless.Goals as goal

pub invariant_of-self : goal.invariant_of-self
invariant_of-self g c =
    let may : settle_fault c.args.first c.args.last c.self.inside.deliveries ≡ None =
    ap (λ (s : LinkState). settle_fault c.args.first c.args.last (open_set s)) c.self.view_is ∙ c.requires in
    subst (λ (o : OpenSet). IsLink c.self.inside.terms c.self.inside.credit o) (sym c.settle_by_receiver.ensures.new)
    (stays_for_receiver c.self.inside.terms c.self.inside.credit c.self.inside.delivery_count c.self.inside.draining c.self.inside.deliveries c.args.first c.args.last c.self.invariant may)
