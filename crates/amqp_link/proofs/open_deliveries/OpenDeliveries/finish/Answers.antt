use Rattle.std.proofs.Common.{arith, ◌≡◌, ◌∷◌, ◌++◌, [], sym, ap, ◌∙◌}
use Rattle.std.specs.Prelude.{option_map, None}
use Rattle.amqp_link.specs.Links.{Delivery}
use Rattle.amqp_link.specs.Keeping.{at_key, set_at}
use Rattle.std.proofs.lemmas.Option.{same_Some}
use Rattle.amqp_link.proofs.KeptPlaces.{finishes_at}
use Rattle.amqp_link.proofs.Hints.{numbered}
use Rattle.amqp_link.proofs.open_deliveries.OpenDeliveries.finish.Goals as goal

pub invariant_of-self : goal.invariant_of-self
invariant_of-self g c = (numbered c.self.inside.slab c.number_one.new.slab _ _ _ _ _ _ (finishes_at c.self.inside.slab _ _ _ _ c.in-Some.key _ _ _ c.in-Some.is c.self.invariant c.push_reserved.ensures.items
    (omega (arith, c.push_reserved.ensures.capacity))) c.number_one.ensures).kept

pub returns-in-Some : goal.returns-in-Some
returns-in-Some g c =
    rw (← c.self.view_is) (λ d e.
    let same : d ≡ at_key c.self.inside.slab c.in-Some.key = same_Some _ _ (sym e ∙ ap (option_map (at_key c.self.inside.slab)) c.in-Some.is) in
    (numbered c.self.inside.slab c.number_one.new.slab c.push_reserved.new.self.items _ _ _ c.push_reserved.new.self.cap _
    (finishes_at c.self.inside.slab _ _ _ _ c.in-Some.key _ c.self.inside.order.cap c.push_reserved.new.self.cap c.in-Some.is c.self.invariant c.push_reserved.ensures.items
    (omega (arith, c.push_reserved.ensures.capacity))) c.number_one.ensures).is
    ∙ ap (λ (x : Delivery). record (set_at c.self.inside.slab c.self.inside.order.items c.self.inside.handed_up c.self.inside.unfinished) {
      ready =
          (set_at c.self.inside.slab c.self.inside.order.items c.self.inside.handed_up c.self.inside.unfinished).ready ++ x ∷ [];
      unfinished = None;
    }) (sym same))
