use Rattle.std.proofs.Common.{arith, length, Some, sym, ap, ◌∙◌}
use Rattle.std.proofs.lemmas.Option.{slice_get_within}
use Rattle.amqp_link.specs.declared.open_delivery.Settler.TheVariants.{SenderOfHandedUp}
use Rattle.amqp_link.proofs.KeptPlaces.{keys_within, few_placed}
use Rattle.amqp_link.proofs.Hints.{closed_up}
use Rattle.amqp_link.proofs.Looks.{front_keys, front_settled, front_freed, front_turned, front_counted, ready_turned, ready_counted, part_turned, part_counted}
use Rattle.amqp_link.proofs.open_deliveries.OpenDeliveries.peer_settled_at.Goals as goal

pub index_mut-requires : goal.index_mut-requires
index_mut-requires g c =
    omega (arith, ap length (sym c.deref.ensures.value), slice_get_within c.deref.result.now c.in-HandedUp.place (Some c.args.key) c.in-HandedUp.ensures.1, c.self.inside.order.ok.0)

pub settle_at-settled-requires : goal.settle_at-settled-requires
settle_at-settled-requires g c = front_keys _ c.self.inside.order.items _ _ _ _ _ _ c.args.id c.in-HandedUp.place _ c.ranges.id.fits c.self.invariant c.deref.ensures.value c.self.view_is c.requires c.in-HandedUp.ensures
    c.index_mut.result.now c.index_mut.ensures.value

pub overflow_sub-self : goal.overflow_sub-self
overflow_sub-self g c = front_freed _ c.self.inside.order.items _ _ _ _ _ _ c.args.id c.in-HandedUp.place _ c.ranges.id.fits c.self.invariant c.deref.ensures.value c.self.view_is c.requires c.in-HandedUp.ensures
    SenderOfHandedUp c.settle_at-settled.new.slab c.index_mut.result.now c.settle_at-settled.new.place _ _ c.index_mut.ensures.value c.settle_at-settled.ensures

pub close_up-requires : goal.close_up-requires
close_up-requires g c =
    let done = front_settled _ c.self.inside.order.items _ _ _ _ _ _ c.args.id c.in-HandedUp.place _ c.ranges.id.fits c.self.invariant c.deref.ensures.value c.self.view_is c.requires c.in-HandedUp.ensures
    SenderOfHandedUp c.settle_at-settled.new.slab c.index_mut.result.now c.settle_at-settled.new.place _ _ c.index_mut.ensures.value c.settle_at-settled.ensures in
    record {
      split = done.placed.split;
      filled = done.placed.filled;
      keys = omega (arith, keys_within c.settle_at-settled.new.slab _ _ _ _ _ done.placed);
      fits = omega (arith, few_placed c.settle_at-settled.new.slab _ _ _ _ _ done.placed, c.self.inside.order.small);
    }

pub invariant_of-self : goal.invariant_of-self
invariant_of-self g c = (closed_up (front_settled _ c.self.inside.order.items _ _ _ _ _ _ c.args.id c.in-HandedUp.place _ c.ranges.id.fits c.self.invariant c.deref.ensures.value c.self.view_is c.requires c.in-HandedUp.ensures
    SenderOfHandedUp c.settle_at-settled.new.slab c.index_mut.result.now c.settle_at-settled.new.place _ _ c.index_mut.ensures.value c.settle_at-settled.ensures)
    c.close_up.ensures.same c.close_up.ensures.few c.close_up.ensures.room c.close_up.ensures.deliveries).kept

pub returns-in-HandedUp-clause-count : goal.returns-in-HandedUp-clause-count
returns-in-HandedUp-clause-count g c = front_counted _ c.self.inside.order.items _ _ _ _ _ _ c.args.id c.in-HandedUp.place _ c.ranges.id.fits c.self.invariant c.deref.ensures.value c.self.view_is c.requires c.in-HandedUp.ensures
    c.settle_at-settled.new.slab c.index_mut.result.now c.settle_at-settled.new.place _ _ c.index_mut.ensures.value c.settle_at-settled.ensures

pub returns-in-HandedUp-clause-new : goal.returns-in-HandedUp-clause-new
returns-in-HandedUp-clause-new g c = (closed_up (front_settled _ c.self.inside.order.items _ _ _ _ _ _ c.args.id c.in-HandedUp.place _ c.ranges.id.fits c.self.invariant c.deref.ensures.value c.self.view_is c.requires c.in-HandedUp.ensures
    SenderOfHandedUp c.settle_at-settled.new.slab c.index_mut.result.now c.settle_at-settled.new.place _ _ c.index_mut.ensures.value c.settle_at-settled.ensures)
    c.close_up.ensures.same c.close_up.ensures.few c.close_up.ensures.room c.close_up.ensures.deliveries).is ∙ front_turned _ c.self.inside.order.items _ _ _ _ _ _ c.args.id c.in-HandedUp.place _ c.ranges.id.fits c.self.invariant c.deref.ensures.value c.self.view_is c.requires c.in-HandedUp.ensures

pub settle_at-requires : goal.settle_at-requires
settle_at-requires g c = (c.in-Ready.ensures.0.there, tt, tt)

pub invariant_of-self-in-Ready : goal.invariant_of-self-in-Ready
invariant_of-self-in-Ready g c = (ready_turned _ c.self.inside.order.items _ _ _ _ _ _ c.args.id c.in-Ready.field-0 _ c.ranges.id.fits c.self.invariant c.deref.ensures.value c.self.view_is c.requires c.in-Ready.ensures
    c.settle_at.new.slab c.settle_at.new.place _ _ c.settle_at.ensures).kept

pub returns-in-Ready-clause-count : goal.returns-in-Ready-clause-count
returns-in-Ready-clause-count g c = ready_counted _ c.self.inside.order.items _ _ _ _ _ _ c.args.id c.in-Ready.field-0 _ c.ranges.id.fits c.self.invariant c.deref.ensures.value c.self.view_is c.requires c.in-Ready.ensures
    c.settle_at.new.slab c.settle_at.new.place _ _ c.settle_at.ensures

pub returns-in-Ready-clause-new : goal.returns-in-Ready-clause-new
returns-in-Ready-clause-new g c = (ready_turned _ c.self.inside.order.items _ _ _ _ _ _ c.args.id c.in-Ready.field-0 _ c.ranges.id.fits c.self.invariant c.deref.ensures.value c.self.view_is c.requires c.in-Ready.ensures
    c.settle_at.new.slab c.settle_at.new.place _ _ c.settle_at.ensures).is

pub returns-in-Unfinished-clause-count : goal.returns-in-Unfinished-clause-count
returns-in-Unfinished-clause-count g c = part_counted _ c.self.inside.order.items _ _ _ c.args.id _ c.ranges.id.fits c.self.view_is c.requires c.in-Unfinished.ensures _ c.settle_unfinished.ensures.count

pub returns-in-Unfinished-clause-new : goal.returns-in-Unfinished-clause-new
returns-in-Unfinished-clause-new g c = c.settle_unfinished.ensures.new ∙ part_turned _ c.self.inside.order.items _ _ _ c.args.id _ c.ranges.id.fits c.self.view_is c.requires c.in-Unfinished.ensures
