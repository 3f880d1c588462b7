use Rattle.std.proofs.Common.{◌≡◌, ◌+◌, ◌-◌, length, None, Option, refl, sym, ap, subst, ◌∙◌}
use Rattle.std.specs.Prelude.{slice_get, true, IfSome, IsSomeAnd}
use Rattle.slab.specs.Slab.{with_value}
use Rattle.amqp_link.specs.Links.{Delivery, OpenSet}
use Rattle.amqp_link.specs.HandedUps.{IsHandedUp}
use Rattle.amqp_link.specs.Keeping.{set_at, taken_from}
use Rattle.amqp_link.proofs.Keys.{same_value}
use Rattle.amqp_link.proofs.PlaceKeys.{next_of}
use Rattle.amqp_link.proofs.KeptPlaces.{first_at, first_is, moves_at}
use Rattle.amqp_link.proofs.open_deliveries.OpenDeliveries.take.Goals as goal

pub index-requires : goal.index-requires
index-requires g c =
    first_at c.self.inside.slab _ _ _ c.in_ok-key.key _ _ c.self.invariant
    (next_of c.self.inside.handed_up c.self.inside.order.items c.deref.result.now c.in_ok-get.field-0.now c.in_ok-key.key c.deref.ensures.value c.in_ok-get.ensures.lookup.3.0
    (c.in_ok-get.ensures.lookup.3.1 None) c.in_ok-key.was)

pub take_settled-requires : goal.take_settled-requires
take_settled-requires g c =
    subst (λ (o : Option Delivery). IfSome o (λ d. d.settled ≡ true))
    (sym (ap (λ (o : OpenSet). slice_get o.ready 0) (sym c.self.view_is) ∙ first_is c.self.inside.slab c.self.inside.order.items c.self.inside.handed_up c.self.inside.unfinished c.in_ok-key.key c.index.result.now
    (next_of c.self.inside.handed_up c.self.inside.order.items c.deref.result.now c.in_ok-get.field-0.now c.in_ok-key.key c.deref.ensures.value c.in_ok-get.ensures.lookup.3.0
    (c.in_ok-get.ensures.lookup.3.1 None) c.in_ok-key.was) c.index.ensures)) c.if-index.true

pub invariant_of-self : goal.invariant_of-self
invariant_of-self g c =
    let same = same_value c.self.inside.slab c.in_ok-key.key c.index_mut.result.now c.index.result.now c.index_mut.ensures.value c.index.ensures in
    (moves_at c.self.inside.slab _ _ _ c.in_ok-key.key c.index_mut.result.now c.hand_up-taken.new.self _ _ _ _
    (next_of c.self.inside.handed_up c.self.inside.order.items c.deref.result.now c.in_ok-get.field-0.now c.in_ok-key.key c.deref.ensures.value c.in_ok-get.ensures.lookup.3.0
    (c.in_ok-get.ensures.lookup.3.1 None) c.in_ok-key.was)
    c.self.invariant c.index_mut.ensures.value (ap (λ d. d.settled) same ∙ c.if-index.false) c.hand_up-taken.ensures.left
    (c.size.ensures.value ∙ ap length c.hand_up-taken.ensures.taken.message) refl).kept

pub returns-clause-some : goal.returns-clause-some
returns-clause-some g c =
    let same = same_value c.self.inside.slab c.in_ok-key.key c.index_mut.result.now c.index.result.now c.index_mut.ensures.value c.index.ensures in
    let moved = moves_at c.self.inside.slab c.self.inside.order.items c.self.inside.handed_up c.self.inside.unfinished c.in_ok-key.key c.index_mut.result.now c.hand_up-taken.new.self c.self.inside.bytes
    (c.self.inside.bytes - c.size.result) _ c.self.inside.order.cap
    (next_of c.self.inside.handed_up c.self.inside.order.items c.deref.result.now c.in_ok-get.field-0.now c.in_ok-key.key c.deref.ensures.value c.in_ok-get.ensures.lookup.3.0
    (c.in_ok-get.ensures.lookup.3.1 None) c.in_ok-key.was)
    c.self.invariant c.index_mut.ensures.value (ap (λ d. d.settled) same ∙ c.if-index.false) c.hand_up-taken.ensures.left
    (c.size.ensures.value ∙ ap length c.hand_up-taken.ensures.taken.message) refl in
    rw (← c.self.view_is)
    (subst (λ (o : Option Delivery). IsSomeAnd o (λ d. IsHandedUp c.hand_up-taken.result d × (set_at (with_value c.self.inside.slab c.in_ok-key.key c.hand_up-taken.new.self) c.self.inside.order.items
    (c.self.inside.handed_up + 1) c.self.inside.unfinished ≡ taken_from d (set_at c.self.inside.slab c.self.inside.order.items c.self.inside.handed_up c.self.inside.unfinished))))
    (sym (first_is c.self.inside.slab c.self.inside.order.items c.self.inside.handed_up c.self.inside.unfinished c.in_ok-key.key c.index_mut.result.now
    (next_of c.self.inside.handed_up c.self.inside.order.items c.deref.result.now c.in_ok-get.field-0.now c.in_ok-key.key c.deref.ensures.value c.in_ok-get.ensures.lookup.3.0
    (c.in_ok-get.ensures.lookup.3.1 None) c.in_ok-key.was) c.index_mut.ensures.value)) (c.hand_up-taken.ensures.taken, moved.is))
