use Rattle.std.proofs.Common.{refl, ap, ◌∙◌}
use Rattle.amqp_link.specs.Links.{OpenSet, sender_settled_by}
use Rattle.std.specs.Prelude.{map}
use Rattle.amqp_link.proofs.PlaceKeys.{to_the_end, back_written}
use Rattle.amqp_link.proofs.KeptSettles.{ready_keys, ready_settled}
use Rattle.amqp_link.proofs.open_deliveries.OpenDeliveries.settle_ready.Goals as goal

pub settle-requires-clause-keys : goal.settle-requires-clause-keys
settle-requires-clause-keys g c =
    ready_keys c.self.inside.slab c.self.inside.order.items _ _ _ _ _ c.self.invariant
    (c.slice_mut-ready.ensures.value ∙ to_the_end c.self.inside.order.len c.self.inside.handed_up c.self.inside.order.items c.self.inside.order.ok.0)

pub invariant_of-self : goal.invariant_of-self
invariant_of-self g c =
    let before = c.slice_mut-ready.ensures.value ∙ to_the_end c.self.inside.order.len c.self.inside.handed_up c.self.inside.order.items c.self.inside.order.ok.0 in
    rw (back_written c.self.inside.order.len c.self.inside.handed_up c.self.inside.order.items c.settle.new.places c.self.inside.order.ok.0 (c.settle.ensures.same (λ _. refl) ∙ before))
    ((ready_settled c.args.ids c.self.inside.slab c.settle.new.slab c.self.inside.order.items _ _ _ _ _ _ _ _ c.self.invariant before c.settle.ensures).kept)

pub returns-clause-new : goal.returns-clause-new
returns-clause-new g c =
    let before = c.slice_mut-ready.ensures.value ∙ to_the_end c.self.inside.order.len c.self.inside.handed_up c.self.inside.order.items c.self.inside.order.ok.0 in
    rw (back_written c.self.inside.order.len c.self.inside.handed_up c.self.inside.order.items c.settle.new.places c.self.inside.order.ok.0 (c.settle.ensures.same (λ _. refl) ∙ before))
    ((ready_settled c.args.ids c.self.inside.slab c.settle.new.slab c.self.inside.order.items _ _ _ _ _ _ _ c.self.inside.order.cap c.self.invariant before c.settle.ensures).is
    ∙ ap (λ (o : OpenSet). record o { ready = map (sender_settled_by c.args.ids.first c.args.ids.last) o.ready }) c.self.view_is)
