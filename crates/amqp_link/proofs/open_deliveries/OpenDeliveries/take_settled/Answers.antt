use Rattle.std.proofs.Common.{arith, ◌≡◌, ℕ, ◌-◌, None, Option, sym, ap, subst, ◌∙◌}
use Rattle.std.specs.Prelude.{slice_get, true, IfSome, IsSomeAnd}
use Rattle.amqp_link.specs.Links.{Delivery, OpenSet}
use Rattle.amqp_link.specs.HandedUps.{IsHandedUp}
use Rattle.amqp_link.specs.Keeping.{set_at, taken_from}
use Rattle.amqp_link.proofs.PlaceKeys.{next_of}
use Rattle.amqp_link.proofs.KeptPlaces.{first_at, first_is, leaves_at, keys_within, few_placed}
use Rattle.amqp_link.proofs.Hints.{closed_up}
use Rattle.amqp_link.proofs.open_deliveries.OpenDeliveries.take_settled.Goals as goal

pub remove-delivery-requires : goal.remove-delivery-requires
remove-delivery-requires g c =
    first_at c.self.inside.slab _ _ _ c.in_ok-key.key _ _ c.self.invariant
    (next_of c.self.inside.handed_up c.self.inside.order.items c.deref.result.now c.in_ok-get.field-0.now c.in_ok-key.key c.deref.ensures.value c.in_ok-get.ensures.lookup.3.0
    (c.in_ok-get.ensures.lookup.3.1 None) c.in_ok-key.was)

pub close_up-requires : goal.close_up-requires
close_up-requires g c =
    let next = next_of c.self.inside.handed_up c.self.inside.order.items c.deref.result.now c.in_ok-get.field-0.now c.in_ok-key.key c.deref.ensures.value c.in_ok-get.ensures.lookup.3.0
    (c.in_ok-get.ensures.lookup.3.1 None) c.in_ok-key.was in
    let first = first_is c.self.inside.slab c.self.inside.order.items c.self.inside.handed_up c.self.inside.unfinished c.in_ok-key.key c.remove-delivery.result next c.remove-delivery.ensures.value in
    let left = leaves_at c.self.inside.slab c.remove-delivery.new.self c.self.inside.order.items c.self.inside.handed_up c.self.inside.unfinished c.in_ok-key.key c.remove-delivery.result c.self.inside.bytes
    (c.self.inside.bytes - c.bytes.result) c.self.inside.order.cap next c.self.invariant c.remove-delivery.ensures.value
    (subst (λ (o : Option Delivery). IfSome o (λ d. d.settled ≡ true)) (ap (λ (o : OpenSet). slice_get o.ready 0) (sym c.self.view_is) ∙ first) c.requires)
    c.remove-delivery.ensures.updates c.remove-delivery.ensures.len (ap (λ (n : ℕ). c.self.inside.bytes - n) c.bytes.ensures) in
    record {
      split = left.placed.split;
      filled = left.placed.filled;
      keys = omega (arith, keys_within c.remove-delivery.new.self _ _ _ _ _ left.placed);
      fits = omega (arith, few_placed c.remove-delivery.new.self _ _ _ _ _ left.placed, c.self.inside.order.small);
    }

pub invariant_of-self : goal.invariant_of-self
invariant_of-self g c =
    let next = next_of c.self.inside.handed_up c.self.inside.order.items c.deref.result.now c.in_ok-get.field-0.now c.in_ok-key.key c.deref.ensures.value c.in_ok-get.ensures.lookup.3.0
    (c.in_ok-get.ensures.lookup.3.1 None) c.in_ok-key.was in
    let first = first_is c.self.inside.slab c.self.inside.order.items c.self.inside.handed_up c.self.inside.unfinished c.in_ok-key.key c.remove-delivery.result next c.remove-delivery.ensures.value in
    let left = leaves_at c.self.inside.slab c.remove-delivery.new.self c.self.inside.order.items c.self.inside.handed_up c.self.inside.unfinished c.in_ok-key.key c.remove-delivery.result c.self.inside.bytes
    (c.self.inside.bytes - c.bytes.result) c.self.inside.order.cap next c.self.invariant c.remove-delivery.ensures.value
    (subst (λ (o : Option Delivery). IfSome o (λ d. d.settled ≡ true)) (ap (λ (o : OpenSet). slice_get o.ready 0) (sym c.self.view_is) ∙ first) c.requires)
    c.remove-delivery.ensures.updates c.remove-delivery.ensures.len (ap (λ (n : ℕ). c.self.inside.bytes - n) c.bytes.ensures) in
    (closed_up left c.close_up.ensures.same c.close_up.ensures.few c.close_up.ensures.room c.close_up.ensures.deliveries).kept

pub returns-clause-some : goal.returns-clause-some
returns-clause-some g c =
    let next = next_of c.self.inside.handed_up c.self.inside.order.items c.deref.result.now c.in_ok-get.field-0.now c.in_ok-key.key c.deref.ensures.value c.in_ok-get.ensures.lookup.3.0
    (c.in_ok-get.ensures.lookup.3.1 None) c.in_ok-key.was in
    let first = first_is c.self.inside.slab c.self.inside.order.items c.self.inside.handed_up c.self.inside.unfinished c.in_ok-key.key c.remove-delivery.result next c.remove-delivery.ensures.value in
    let left = leaves_at c.self.inside.slab c.remove-delivery.new.self c.self.inside.order.items c.self.inside.handed_up c.self.inside.unfinished c.in_ok-key.key c.remove-delivery.result c.self.inside.bytes
    (c.self.inside.bytes - c.bytes.result) c.self.inside.order.cap next c.self.invariant c.remove-delivery.ensures.value
    (subst (λ (o : Option Delivery). IfSome o (λ d. d.settled ≡ true)) (ap (λ (o : OpenSet). slice_get o.ready 0) (sym c.self.view_is) ∙ first) c.requires)
    c.remove-delivery.ensures.updates c.remove-delivery.ensures.len (ap (λ (n : ℕ). c.self.inside.bytes - n) c.bytes.ensures) in
    rw (← c.self.view_is)
    (subst (λ (o : Option Delivery). IsSomeAnd o (λ d. IsHandedUp c.hand_up.result d × (set_at c.close_up.new.slab c.close_up.new.places.items c.close_up.new.handed_up c.self.inside.unfinished
    ≡ taken_from d (set_at c.self.inside.slab c.self.inside.order.items c.self.inside.handed_up c.self.inside.unfinished)))) (sym first)
    (c.hand_up.ensures.taken, (closed_up left c.close_up.ensures.same c.close_up.ensures.few c.close_up.ensures.room c.close_up.ensures.deliveries).is))
