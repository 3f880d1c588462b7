use Rattle.std.proofs.Common.{arith, ℕ, ◌-◌, sym, ap, ◌∙◌}
use Rattle.amqp_link.specs.Links.{delivery_bytes}
use Rattle.amqp_link.specs.Keeping.{delivery_in}
use Rattle.amqp_link.proofs.KeptPlaces.{goes_at, here_of, keys_within, few_placed}
use Rattle.amqp_link.proofs.Hints.{closed_up}
use Rattle.amqp_link.proofs.open_deliveries.OpenDeliveries.discard.Goals as goal

pub remove-requires : goal.remove-requires
remove-requires g c = here_of c.self.inside.slab _ _ _ c.in-Some.key _ _ c.self.invariant c.in-Some.is

pub close_up-requires : goal.close_up-requires
close_up-requires g c =
    let gone = (goes_at c.self.inside.slab c.remove.new.self c.self.inside.order.items c.self.inside.handed_up c.self.inside.unfinished c.in-Some.key _ _ c.self.inside.order.cap c.in-Some.is c.self.invariant
    c.remove.ensures.updates c.remove.ensures.len (ap (λ (n : ℕ). c.self.inside.bytes - n) (c.bytes.ensures ∙ ap (λ s. delivery_bytes (delivery_in s)) (sym c.remove.ensures.value)))) in
    record {
      split = gone.placed.split;
      filled = gone.placed.filled;
      keys = omega (arith, keys_within c.remove.new.self _ _ _ _ _ gone.placed);
      fits = omega (arith, few_placed c.remove.new.self _ _ _ _ _ gone.placed, c.self.inside.order.small);
    }

pub invariant_of-self : goal.invariant_of-self
invariant_of-self g c =
    let gone = (goes_at c.self.inside.slab c.remove.new.self c.self.inside.order.items c.self.inside.handed_up c.self.inside.unfinished c.in-Some.key _ _ c.self.inside.order.cap c.in-Some.is c.self.invariant
    c.remove.ensures.updates c.remove.ensures.len (ap (λ (n : ℕ). c.self.inside.bytes - n) (c.bytes.ensures ∙ ap (λ s. delivery_bytes (delivery_in s)) (sym c.remove.ensures.value)))) in
    (closed_up gone c.close_up.ensures.same c.close_up.ensures.few c.close_up.ensures.room c.close_up.ensures.deliveries).kept

pub returns-in-Some : goal.returns-in-Some
returns-in-Some g c =
    let gone = (goes_at c.self.inside.slab c.remove.new.self c.self.inside.order.items c.self.inside.handed_up c.self.inside.unfinished c.in-Some.key _ _ c.self.inside.order.cap c.in-Some.is c.self.invariant
    c.remove.ensures.updates c.remove.ensures.len (ap (λ (n : ℕ). c.self.inside.bytes - n) (c.bytes.ensures ∙ ap (λ s. delivery_bytes (delivery_in s)) (sym c.remove.ensures.value)))) in
    rw (← c.self.view_is) ((closed_up gone c.close_up.ensures.same c.close_up.ensures.few c.close_up.ensures.room c.close_up.ensures.deliveries).is)
