use Rattle.std.proofs.Common.{arith, length, Some, sym, ap, ◌∙◌}
use Rattle.std.specs.Prelude.{cond, Bool}
use Rattle.std.proofs.lemmas.Option.{slice_get_within}
use Rattle.amqp_link.specs.declared.open_delivery.Settler.TheVariants.{Receiver}
use Rattle.amqp_link.specs.declared.settlement.Standing.TheVariants.{Told, Awaiting}
use Rattle.amqp_link.specs.Links.{standing_at}
use Rattle.amqp_link.specs.Keeping.{delivery_in}
use Rattle.amqp_link.proofs.KeptPlaces.{keys_within, few_placed}
use Rattle.amqp_link.proofs.Hints.{closed_up}
use Rattle.amqp_link.proofs.Looks.{front_standing, front_keys, front_settled, front_freed, ready_standing, part_standing}
use Rattle.amqp_link.proofs.open_deliveries.OpenDeliveries.settle_at.Goals as goal

pub index-delivery-requires : goal.index-delivery-requires
index-delivery-requires g c = c.in-HandedUp.ensures.0.there

pub index_mut-requires : goal.index_mut-requires
index_mut-requires g c =
    omega (arith, ap length (sym c.deref.ensures.value), slice_get_within c.deref.result.now c.in-HandedUp.place (Some c.args.key) c.in-HandedUp.ensures.1, c.self.inside.order.ok.0)

pub settle_at-settled-requires : goal.settle_at-settled-requires
settle_at-settled-requires g c = front_keys _ c.self.inside.order.items _ _ _ _ _ _ c.args.id c.in-HandedUp.place _ c.ranges.id.fits c.self.invariant c.deref.ensures.value c.self.view_is c.requires c.in-HandedUp.ensures
    c.index_mut.result.now c.index_mut.ensures.value

pub overflow_sub-self : goal.overflow_sub-self
overflow_sub-self g c = front_freed _ c.self.inside.order.items _ _ _ _ _ _ c.args.id c.in-HandedUp.place _ c.ranges.id.fits c.self.invariant c.deref.ensures.value c.self.view_is c.requires c.in-HandedUp.ensures
    Receiver c.settle_at-settled.new.slab c.index_mut.result.now c.settle_at-settled.new.place _ _ c.index_mut.ensures.value c.settle_at-settled.ensures

pub close_up-requires : goal.close_up-requires
close_up-requires g c =
    let done = front_settled _ c.self.inside.order.items _ _ _ _ _ _ c.args.id c.in-HandedUp.place _ c.ranges.id.fits c.self.invariant c.deref.ensures.value c.self.view_is c.requires c.in-HandedUp.ensures
    Receiver c.settle_at-settled.new.slab c.index_mut.result.now c.settle_at-settled.new.place _ _ c.index_mut.ensures.value c.settle_at-settled.ensures in
    record {
      split = done.placed.split;
      filled = done.placed.filled;
      keys = omega (arith, keys_within c.settle_at-settled.new.slab _ _ _ _ _ done.placed);
      fits = omega (arith, few_placed c.settle_at-settled.new.slab _ _ _ _ _ done.placed, c.self.inside.order.small);
    }

pub invariant_of-self : goal.invariant_of-self
invariant_of-self g c = (closed_up (front_settled _ c.self.inside.order.items _ _ _ _ _ _ c.args.id c.in-HandedUp.place _ c.ranges.id.fits c.self.invariant c.deref.ensures.value c.self.view_is c.requires c.in-HandedUp.ensures
    Receiver c.settle_at-settled.new.slab c.index_mut.result.now c.settle_at-settled.new.place _ _ c.index_mut.ensures.value c.settle_at-settled.ensures)
    c.close_up.ensures.same c.close_up.ensures.few c.close_up.ensures.room c.close_up.ensures.deliveries).kept

pub returns-then-delivery-clause-standing : goal.returns-then-delivery-clause-standing
returns-then-delivery-clause-standing g c =
    sym (front_standing _ c.self.inside.order.items _ _ _ _ _ _ c.args.id c.in-HandedUp.place _ c.ranges.id.fits c.self.invariant c.deref.ensures.value c.self.view_is c.requires c.in-HandedUp.ensures
    ∙ ap (λ s. standing_at (Some (delivery_in s))) c.index-delivery.ensures ∙ ap (λ (b : Bool). cond b Told (Awaiting c.index-delivery.result.now.rcv_settle_mode)) c.if-delivery.true)

pub returns-else-delivery-clause-standing : goal.returns-else-delivery-clause-standing
returns-else-delivery-clause-standing g c =
    sym (front_standing _ c.self.inside.order.items _ _ _ _ _ _ c.args.id c.in-HandedUp.place _ c.ranges.id.fits c.self.invariant c.deref.ensures.value c.self.view_is c.requires c.in-HandedUp.ensures
    ∙ ap (λ s. standing_at (Some (delivery_in s))) c.index-delivery.ensures ∙ ap (λ (b : Bool). cond b Told (Awaiting c.index-delivery.result.now.rcv_settle_mode)) c.if-delivery.false)

pub returns-else-delivery-clause-new : goal.returns-else-delivery-clause-new
returns-else-delivery-clause-new g c = λ _. (closed_up (front_settled _ c.self.inside.order.items _ _ _ _ _ _ c.args.id c.in-HandedUp.place _ c.ranges.id.fits c.self.invariant c.deref.ensures.value c.self.view_is c.requires c.in-HandedUp.ensures
    Receiver c.settle_at-settled.new.slab c.index_mut.result.now c.settle_at-settled.new.place _ _ c.index_mut.ensures.value c.settle_at-settled.ensures)
    c.close_up.ensures.same c.close_up.ensures.few c.close_up.ensures.room c.close_up.ensures.deliveries).is

pub returns-in-Ready-clause-standing : goal.returns-in-Ready-clause-standing
returns-in-Ready-clause-standing g c = sym (ready_standing _ c.self.inside.order.items _ _ _ _ _ _ c.args.id c.in-Ready.field-0 _ c.ranges.id.fits c.self.invariant c.deref.ensures.value c.self.view_is c.requires c.in-Ready.ensures)

pub returns-in-Unfinished-clause-standing : goal.returns-in-Unfinished-clause-standing
returns-in-Unfinished-clause-standing g c = sym (part_standing _ c.self.inside.order.items _ _ _ c.args.id _ c.ranges.id.fits c.self.view_is c.requires c.in-Unfinished.ensures)
