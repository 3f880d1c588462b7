use Rattle.std.proofs.Common.{arith, ℕ, ◌-◌, List, Option, sym, ap, subst, ◌∙◌}
use Rattle.amqp_link.specs.Links.{OpenSet, how_many}
use Rattle.amqp_link.specs.Keeping.{set_at, settled_list}
use Rattle.amqp_link.proofs.PlaceKeys.{from_the_start, front_written}
use Rattle.amqp_link.proofs.KeptPlaces.{PlacedAt, many_kept, keys_within, few_placed}
use Rattle.amqp_link.proofs.KeptSettles.{awaiting_keys, awaiting_settled}
use Rattle.amqp_link.proofs.Hints.{closed_up}
use Rattle.amqp_link.proofs.open_deliveries.OpenDeliveries.settle_handed_up.Goals as goal

pub settle-settled-requires-clause-keys : goal.settle-settled-requires-clause-keys
settle-settled-requires-clause-keys g c =
    awaiting_keys c.self.inside.slab c.self.inside.order.items _ _ _ _ _ c.self.invariant (c.slice_mut-handed_up.ensures.value ∙ from_the_start c.self.inside.handed_up c.self.inside.order.items)

pub close_up-requires : goal.close_up-requires
close_up-requires g c =
    let done = subst (λ (ps : List (Option ℕ)). PlacedAt c.settle-settled.new.slab ps c.self.inside.handed_up c.self.inside.unfinished (c.self.inside.bytes - c.settle-settled.result.freed)
    c.self.inside.order.cap (record (set_at c.self.inside.slab c.self.inside.order.items c.self.inside.handed_up c.self.inside.unfinished) {
      awaiting =
          settled_list c.args.settling (set_at c.self.inside.slab c.self.inside.order.items c.self.inside.handed_up c.self.inside.unfinished).awaiting;
    }))
    (sym (front_written c.self.inside.order.len c.self.inside.handed_up c.self.inside.order.items _ c.settle-settled.new.places c.self.inside.order.ok.0
    (c.slice_mut-handed_up.ensures.value ∙ from_the_start c.self.inside.handed_up c.self.inside.order.items) c.settle-settled.ensures.long c.self.invariant.split))
    (awaiting_settled c.args.settling c.self.inside.slab c.settle-settled.new.slab c.self.inside.order.items _ c.settle-settled.new.places c.self.inside.handed_up c.self.inside.unfinished _ _
    c.self.inside.bytes c.self.inside.order.cap c.self.invariant (c.slice_mut-handed_up.ensures.value ∙ from_the_start c.self.inside.handed_up c.self.inside.order.items)
    c.settle-settled.ensures) in
    record {
      split = done.placed.split;
      filled = done.placed.filled;
      keys = omega (arith, keys_within c.settle-settled.new.slab _ _ _ _ _ done.placed);
      fits = omega (arith, few_placed c.settle-settled.new.slab _ _ _ _ _ done.placed, c.self.inside.order.small);
    }

pub invariant_of-self : goal.invariant_of-self
invariant_of-self g c =
    let done = subst (λ (ps : List (Option ℕ)). PlacedAt c.settle-settled.new.slab ps c.self.inside.handed_up c.self.inside.unfinished (c.self.inside.bytes - c.settle-settled.result.freed)
    c.self.inside.order.cap (record (set_at c.self.inside.slab c.self.inside.order.items c.self.inside.handed_up c.self.inside.unfinished) {
      awaiting =
          settled_list c.args.settling (set_at c.self.inside.slab c.self.inside.order.items c.self.inside.handed_up c.self.inside.unfinished).awaiting;
    }))
    (sym (front_written c.self.inside.order.len c.self.inside.handed_up c.self.inside.order.items _ c.settle-settled.new.places c.self.inside.order.ok.0
    (c.slice_mut-handed_up.ensures.value ∙ from_the_start c.self.inside.handed_up c.self.inside.order.items) c.settle-settled.ensures.long c.self.invariant.split))
    (awaiting_settled c.args.settling c.self.inside.slab c.settle-settled.new.slab c.self.inside.order.items _ c.settle-settled.new.places c.self.inside.handed_up c.self.inside.unfinished _ _
    c.self.inside.bytes c.self.inside.order.cap c.self.invariant (c.slice_mut-handed_up.ensures.value ∙ from_the_start c.self.inside.handed_up c.self.inside.order.items)
    c.settle-settled.ensures) in
    (closed_up done c.close_up.ensures.same c.close_up.ensures.few c.close_up.ensures.room c.close_up.ensures.deliveries).kept

pub returns-clause-new : goal.returns-clause-new
returns-clause-new g c =
    let done = subst (λ (ps : List (Option ℕ)). PlacedAt c.settle-settled.new.slab ps c.self.inside.handed_up c.self.inside.unfinished (c.self.inside.bytes - c.settle-settled.result.freed)
    c.self.inside.order.cap (record (set_at c.self.inside.slab c.self.inside.order.items c.self.inside.handed_up c.self.inside.unfinished) {
      awaiting =
          settled_list c.args.settling (set_at c.self.inside.slab c.self.inside.order.items c.self.inside.handed_up c.self.inside.unfinished).awaiting;
    }))
    (sym (front_written c.self.inside.order.len c.self.inside.handed_up c.self.inside.order.items _ c.settle-settled.new.places c.self.inside.order.ok.0
    (c.slice_mut-handed_up.ensures.value ∙ from_the_start c.self.inside.handed_up c.self.inside.order.items) c.settle-settled.ensures.long c.self.invariant.split))
    (awaiting_settled c.args.settling c.self.inside.slab c.settle-settled.new.slab c.self.inside.order.items _ c.settle-settled.new.places c.self.inside.handed_up c.self.inside.unfinished _ _
    c.self.inside.bytes c.self.inside.order.cap c.self.invariant (c.slice_mut-handed_up.ensures.value ∙ from_the_start c.self.inside.handed_up c.self.inside.order.items)
    c.settle-settled.ensures) in
    (closed_up done c.close_up.ensures.same c.close_up.ensures.few c.close_up.ensures.room c.close_up.ensures.deliveries).is
    ∙ ap (λ (o : OpenSet). record o { awaiting = settled_list c.args.settling o.awaiting }) c.self.view_is

pub returns-clause-fits : goal.returns-clause-fits
returns-clause-fits g c = omega (arith, ap how_many (sym c.self.view_is), many_kept c.self.inside.slab _ _ _ _ _ c.self.invariant, c.self.inside.order.small)
