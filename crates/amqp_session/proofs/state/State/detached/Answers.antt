use Rattle.std.proofs.Common.{arith, refl, ◌∙◌, ap, sym}
use Rattle.std.proofs.lemmas.Result.{err_from_is_err_and}
use Rattle.std.specs.Prelude.{slice_set}
use Rattle.amqp_session.specs.Places.{live_in}
use Rattle.amqp_session.specs.Slots.{session_of}
use Rattle.amqp_session.specs.declared.slot.Slot.TheVariants.{Free}
use Rattle.amqp_session.proofs.States.{slot_is, slot_past, handle_free, handle_used, gone}
use Rattle.amqp_session.proofs.Tables.{there}
use Rattle.amqp_session.proofs.state.State.detached.Goals as goal

pub returns-then-place-len-clause-refused : goal.returns-then-place-len-clause-refused
returns-then-place-len-clause-refused g c =
    λ closed. handle_free c.self.inside.terms c.self.inside.window c.self.inside.next_incoming_id c.self.inside.table.items c.args.self.now c.self.view_is c.self.invariant c.args.handle Free
    (slot_past c.self.inside.terms c.self.inside.window c.self.inside.next_incoming_id c.self.inside.table.items c.args.self.now c.self.view_is c.self.invariant c.args.handle (omega arith))
    refl

pub returns-in_err-detached-clause-refused : goal.returns-in_err-detached-clause-refused
returns-in_err-detached-clause-refused g c =
    let p = err_from_is_err_and c.from_residual.result c.from_residual.ensures.1 in rw (p.1, p.2, c.in_err-detached.ensures.refused.0)
    (λ closed. handle_free c.self.inside.terms c.self.inside.window c.self.inside.next_incoming_id c.self.inside.table.items c.args.self.now c.self.view_is c.self.invariant c.args.handle
    c.index_mut.result.now (slot_is c.self.inside.terms c.self.inside.window c.self.inside.next_incoming_id c.self.inside.table.items c.args.self.now c.self.view_is c.self.invariant
    c.args.handle c.index_mut.result.now c.index_mut.ensures.value (omega arith)) c.in_err-detached.ensures.refused.1)

pub returns-clause-new : goal.returns-clause-new
returns-clause-new g c =
    λ closed. ap (λ y. session_of c.self.inside.terms c.self.inside.window c.self.inside.next_incoming_id (slice_set c.self.inside.table.items c.args.handle y)) c.in_ok-detached.ensures.new
    ∙ gone c.self.inside.terms c.self.inside.window c.self.inside.next_incoming_id c.self.inside.table.items c.args.self.now c.self.view_is c.self.invariant c.args.handle
    c.index_mut.result.now c.self.ranges.1.1.1.0.1 (there c.self.inside.table.items c.args.handle c.index_mut.result.now c.index_mut.ensures.value (omega arith))

pub returns-clause-accepted : goal.returns-clause-accepted
returns-clause-accepted g c =
    λ closed. handle_used c.self.inside.terms c.self.inside.window c.self.inside.next_incoming_id c.self.inside.table.items c.args.self.now c.self.view_is c.self.invariant c.args.handle
    c.index_mut.result.now (slot_is c.self.inside.terms c.self.inside.window c.self.inside.next_incoming_id c.self.inside.table.items c.args.self.now c.self.view_is c.self.invariant
    c.args.handle c.index_mut.result.now c.index_mut.ensures.value (omega arith)) c.in_ok-detached.ensures.used

pub returns-clause-dropped : goal.returns-clause-dropped
returns-clause-dropped g c =
    rw (slot_is c.self.inside.terms c.self.inside.window c.self.inside.next_incoming_id c.self.inside.table.items c.args.self.now c.self.view_is c.self.invariant c.args.handle c.index_mut.result.now
    c.index_mut.ensures.value (omega arith)) c.in_ok-detached.ensures.dropped

pub returns-clause-live : goal.returns-clause-live
returns-clause-live g c =
    rw (slot_is c.self.inside.terms c.self.inside.window c.self.inside.next_incoming_id c.self.inside.table.items c.args.self.now c.self.view_is c.self.invariant c.args.handle c.index_mut.result.now
    c.index_mut.ensures.value (omega arith)) c.in_ok-detached.ensures.live

pub returns-clause-ended : goal.returns-clause-ended
returns-clause-ended g c =
    c.in_ok-detached.ensures.ended ∙ sym (ap live_in (slot_is c.self.inside.terms c.self.inside.window c.self.inside.next_incoming_id c.self.inside.table.items c.args.self.now c.self.view_is c.self.invariant c.args.handle
    c.index_mut.result.now c.index_mut.ensures.value (omega arith)))
