use Rattle.std.proofs.Common.{sym, ap, ◌∙◌}
use Rattle.std.specs.Prelude.{Some}
use Rattle.amqp_link.specs.Links.{standing_at}
use Rattle.amqp_link.specs.Keeping.{delivery_in}
use Rattle.amqp_link.proofs.Looks.{front_standing, ready_standing, part_standing}
use Rattle.amqp_link.proofs.open_deliveries.OpenDeliveries.standing_at.Goals as goal

pub index-requires : goal.index-requires
index-requires g c = c.in-HandedUp.ensures.0.there

pub returns-in-HandedUp : goal.returns-in-HandedUp
returns-in-HandedUp g c =
    c.standing.ensures ∙ ap (λ s. standing_at (Some (delivery_in s))) (sym c.index.ensures)
    ∙ sym (front_standing _ c.self.inside.order.items _ _ _ _ _ _ c.args.id c.in-HandedUp.field-0 _ c.ranges.id.fits c.self.invariant c.deref.ensures.value c.self.view_is c.requires c.in-HandedUp.ensures)

pub returns-in-Ready : goal.returns-in-Ready
returns-in-Ready g c = sym (ready_standing _ c.self.inside.order.items _ _ _ _ _ _ c.args.id c.in-Ready.field-0 _ c.ranges.id.fits c.self.invariant c.deref.ensures.value c.self.view_is c.requires c.in-Ready.ensures)

pub returns-in-Unfinished : goal.returns-in-Unfinished
returns-in-Unfinished g c = sym (part_standing _ c.self.inside.order.items _ _ _ c.args.id _ c.ranges.id.fits c.self.view_is c.requires c.in-Unfinished.ensures)
