use Rattle.std.proofs.Common.{ap, ◌∙◌}
use Rattle.amqp_link.specs.Links.{OpenSet, sender_settled_by}
use Rattle.std.specs.Prelude.{option_map}
use Rattle.amqp_link.proofs.KeptSettles.{unfinished_keys, unfinished_settled}
use Rattle.amqp_link.proofs.open_deliveries.OpenDeliveries.settle_unfinished.Goals as goal

pub settle_at-requires : goal.settle_at-requires
settle_at-requires g c = unfinished_keys c.self.inside.slab _ _ _ _ _ c.self.invariant

pub invariant_of-self : goal.invariant_of-self
invariant_of-self g c = (unfinished_settled c.args.ids c.self.inside.slab c.settle_at.new.slab _ _ c.self.inside.unfinished c.settle_at.new.place _ _ _ _ c.self.invariant c.settle_at.ensures).kept

pub returns-clause-new : goal.returns-clause-new
returns-clause-new g c =
    (unfinished_settled c.args.ids c.self.inside.slab c.settle_at.new.slab _ _ c.self.inside.unfinished c.settle_at.new.place _ _ _ _ c.self.invariant c.settle_at.ensures).is
    ∙ ap (λ (o : OpenSet). record o { unfinished = option_map (sender_settled_by c.args.ids.first c.args.ids.last) o.unfinished }) c.self.view_is
