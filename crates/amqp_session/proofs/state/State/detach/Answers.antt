use Rattle.std.proofs.Common.{arith, ◌∙◌, ap, sym}
use Rattle.std.specs.Prelude.{None}
use Rattle.amqp_session.specs.Calls.{at_link}
use Rattle.amqp_session.specs.Sessions.{slot_ready}
use Rattle.amqp_session.specs.Places.{live_in}
use Rattle.std.proofs.lemmas.Result.{err_from_is_err_and}
use Rattle.amqp_session.proofs.States.{slot_is, slot_past, left}
use Rattle.amqp_session.proofs.state.State.detach.Goals as goal

pub returns-then-place-len-clause-refused : goal.returns-then-place-len-clause-refused
returns-then-place-len-clause-refused g c =
    ap (λ x. at_link x (λ l. None)) (slot_past c.self.inside.terms c.self.inside.window c.self.inside.next_incoming_id c.self.inside.table.items c.args.self.now c.self.view_is c.self.invariant
    c.args.handle (omega arith))

pub returns-in_err-dropped-clause-refused : goal.returns-in_err-dropped-clause-refused
returns-in_err-dropped-clause-refused g c = let p = err_from_is_err_and c.from_residual.result c.from_residual.ensures.1 in rw (p.1, p.2) (
    ap (λ x. at_link x (λ l. None)) (slot_is c.self.inside.terms c.self.inside.window c.self.inside.next_incoming_id c.self.inside.table.items c.args.self.now c.self.view_is c.self.invariant
    c.args.handle c.index_mut.result.now c.index_mut.ensures.value (omega arith)) ∙ c.in_err-dropped.ensures.refused)

pub returns-clause-new : goal.returns-clause-new
returns-clause-new g c =
    left c.self.inside.terms c.self.inside.window c.self.inside.next_incoming_id c.self.inside.table.items c.args.self.now c.self.view_is c.self.invariant c.args.handle c.index_mut.result.now
    c.detach.new.slot c.self.ranges.1.1.1.0.1 c.index_mut.ensures.value (omega arith) c.in_ok-dropped.ensures.new

pub returns-clause-accepted : goal.returns-clause-accepted
returns-clause-accepted g c =
    ap (λ x. at_link x (λ l. None)) (slot_is c.self.inside.terms c.self.inside.window c.self.inside.next_incoming_id c.self.inside.table.items c.args.self.now c.self.view_is c.self.invariant
    c.args.handle c.index_mut.result.now c.index_mut.ensures.value (omega arith)) ∙ c.in_ok-dropped.ensures.accepted

pub returns-clause-dropped : goal.returns-clause-dropped
returns-clause-dropped g c =
    c.in_ok-dropped.ensures.dropped
    ∙ sym (ap slot_ready (slot_is c.self.inside.terms c.self.inside.window c.self.inside.next_incoming_id c.self.inside.table.items c.args.self.now c.self.view_is c.self.invariant
    c.args.handle c.index_mut.result.now c.index_mut.ensures.value (omega arith)))

pub returns-clause-ended : goal.returns-clause-ended
returns-clause-ended g c =
    c.in_ok-dropped.ensures.ended ∙ sym (ap live_in (slot_is c.self.inside.terms c.self.inside.window c.self.inside.next_incoming_id c.self.inside.table.items c.args.self.now c.self.view_is c.self.invariant c.args.handle
    c.index_mut.result.now c.index_mut.ensures.value (omega arith)))
