use Rattle.std.proofs.Common.{arith, refl, ◌∙◌, ap, sym, subst}
use Rattle.std.proofs.lemmas.Result.{err_from_is_err_and}
use Rattle.amqp_session.specs.Frames.{flowing}
use Rattle.amqp_session.specs.Faults.{is_free, flow_report}
use Rattle.amqp_session.specs.Slots.{IsFlowTold}
use Rattle.amqp_session.specs.Indexes.{IsEndedAt}
use Rattle.std.specs.Prelude.{IfSome}
use Rattle.amqp_session.specs.declared.report.Report.TheVariants as report
use Rattle.amqp_session.specs.declared.slot.Slot.TheVariants.{Free}
use Rattle.amqp_session.proofs.States.{slot_is, ended_in, slot_past, link_flowed, flow_dropped, flow_kept, flow_accepted, flow_refused, flow_told, told_none, told_some, live_used, free_kept}
use Rattle.amqp_session.proofs.state.State.link_flowed.Goals as goal

pub returns-then-place-len-clause-refused : goal.returns-then-place-len-clause-refused
returns-then-place-len-clause-refused g c =
    flow_refused c.self.inside.terms c.self.inside.window c.self.inside.next_incoming_id c.self.inside.table.items c.args.self.now c.self.view_is c.self.invariant
    (flowing c.args.flow.now) c.args.handle Free c.requires (slot_past c.self.inside.terms c.self.inside.window c.self.inside.next_incoming_id c.self.inside.table.items c.args.self.now
    c.self.view_is c.self.invariant c.args.handle (omega arith)) refl

pub returns-in_err-flow_at-clause-refused : goal.returns-in_err-flow_at-clause-refused
returns-in_err-flow_at-clause-refused g c =
    let p = err_from_is_err_and c.from_residual.result c.from_residual.ensures.1 in rw (p.1, p.2, c.in_err-flow_at.ensures.refused.0)
    (flow_refused c.self.inside.terms c.self.inside.window c.self.inside.next_incoming_id c.self.inside.table.items c.args.self.now c.self.view_is c.self.invariant
    (flowing c.args.flow.now) c.args.handle c.index_mut.result.now c.requires (slot_is c.self.inside.terms c.self.inside.window c.self.inside.next_incoming_id c.self.inside.table.items
    c.args.self.now c.self.view_is c.self.invariant c.args.handle c.index_mut.result.now c.index_mut.ensures.value (omega arith)) c.in_err-flow_at.ensures.refused.1)

pub returns-in_err-flow_at-clause-err : goal.returns-in_err-flow_at-clause-err
returns-in_err-flow_at-clause-err g c =
    let p = err_from_is_err_and c.from_residual.result c.from_residual.ensures.1 in rw p.1
    (flow_kept c.self.inside.terms c.self.inside.window c.self.inside.next_incoming_id c.self.inside.table.items c.args.self.now c.self.view_is c.self.invariant c.args.handle
    c.index_mut.result.now c.flow_at.new.slot c.index_mut.ensures.value (omega arith)
    (c.flow_at.ensures.new ∙ free_kept (flowing c.args.flow.now) c.index_mut.result.now c.in_err-flow_at.ensures.refused.1))

pub returns-in-None-clause-new : goal.returns-in-None-clause-new
returns-in-None-clause-new g c =
    flow_dropped c.self.inside.terms c.self.inside.window c.self.inside.next_incoming_id c.self.inside.table.items c.args.self.now c.self.view_is c.self.invariant
    (flowing c.args.flow.now) c.args.handle c.index_mut.result.now c.flow_at.new.slot c.requires c.self.ranges.1.1.1.0.1 c.index_mut.ensures.value (omega arith)
    (told_none c.args.handle (flowing c.args.flow.now) c.index_mut.result.now (subst (λ o. IsFlowTold c.args.handle (flowing c.args.flow.now) c.index_mut.result.now o) c.in-None.is
    c.in_ok-flow_at.ensures.report)) c.flow_at.ensures.new

pub returns-in-None-clause-accepted : goal.returns-in-None-clause-accepted
returns-in-None-clause-accepted g c =
    flow_accepted c.self.inside.terms c.self.inside.window c.self.inside.next_incoming_id c.self.inside.table.items c.args.self.now c.self.view_is c.self.invariant
    (flowing c.args.flow.now) c.args.handle c.index_mut.result.now c.requires c.index_mut.ensures.value (omega arith) (ap is_free
    (told_none c.args.handle (flowing c.args.flow.now) c.index_mut.result.now (subst (λ o. IsFlowTold c.args.handle (flowing c.args.flow.now) c.index_mut.result.now o) c.in-None.is
    c.in_ok-flow_at.ensures.report)))

pub returns-in-None-clause-report : goal.returns-in-None-clause-report
returns-in-None-clause-report g c =
    flow_told c.self.inside.terms c.self.inside.window c.self.inside.next_incoming_id c.self.inside.table.items c.args.self.now c.self.view_is c.self.invariant
    (flowing c.args.flow.now) c.args.handle c.index_mut.result.now report.Nothing c.requires c.index_mut.ensures.value (omega arith)
    (sym (ap (flow_report c.args.handle (flowing c.args.flow.now)) (told_none c.args.handle (flowing c.args.flow.now) c.index_mut.result.now
    (subst (λ o. IsFlowTold c.args.handle (flowing c.args.flow.now) c.index_mut.result.now o) c.in-None.is c.in_ok-flow_at.ensures.report))))

pub returns-in-Some-clause-new : goal.returns-in-Some-clause-new
returns-in-Some-clause-new g c =
    link_flowed c.self.inside.terms c.self.inside.window c.self.inside.next_incoming_id c.self.inside.table.items c.args.self.now c.self.view_is c.self.invariant
    (flowing c.args.flow.now) c.args.handle c.index_mut.result.now c.flow_at.new.slot c.requires (omega arith) c.index_mut.ensures.value (omega arith)
    (told_some c.args.handle (flowing c.args.flow.now) c.index_mut.result.now c.in-Some.report
    (subst (λ o. IsFlowTold c.args.handle (flowing c.args.flow.now) c.index_mut.result.now o) c.in-Some.is c.in_ok-flow_at.ensures.report)).0 c.flow_at.ensures.new

pub returns-in-Some-clause-accepted : goal.returns-in-Some-clause-accepted
returns-in-Some-clause-accepted g c =
    flow_accepted c.self.inside.terms c.self.inside.window c.self.inside.next_incoming_id c.self.inside.table.items c.args.self.now c.self.view_is c.self.invariant
    (flowing c.args.flow.now) c.args.handle c.index_mut.result.now c.requires c.index_mut.ensures.value (omega arith) (live_used c.index_mut.result.now
    (told_some c.args.handle (flowing c.args.flow.now) c.index_mut.result.now c.in-Some.report
    (subst (λ o. IsFlowTold c.args.handle (flowing c.args.flow.now) c.index_mut.result.now o) c.in-Some.is c.in_ok-flow_at.ensures.report)).0)

pub returns-in-Some-clause-report : goal.returns-in-Some-clause-report
returns-in-Some-clause-report g c =
    flow_told c.self.inside.terms c.self.inside.window c.self.inside.next_incoming_id c.self.inside.table.items c.args.self.now c.self.view_is c.self.invariant
    (flowing c.args.flow.now) c.args.handle c.index_mut.result.now c.in-Some.report c.requires c.index_mut.ensures.value (omega arith)
    (told_some c.args.handle (flowing c.args.flow.now) c.index_mut.result.now c.in-Some.report
    (subst (λ o. IsFlowTold c.args.handle (flowing c.args.flow.now) c.index_mut.result.now o) c.in-Some.is c.in_ok-flow_at.ensures.report)).1

pub returns-in-Some-clause-ended : goal.returns-in-Some-clause-ended
returns-in-Some-clause-ended g c =
    ended_in c.args.self.now c.args.handle c.index_mut.result.now c.in-Some.report c.flow_at.new.ended
    (slot_is c.self.inside.terms c.self.inside.window c.self.inside.next_incoming_id c.self.inside.table.items c.args.self.now c.self.view_is c.self.invariant c.args.handle
    c.index_mut.result.now c.index_mut.ensures.value (omega arith))
    (subst (λ o. IfSome o (λ report. IsEndedAt c.args.handle c.index_mut.result.now report c.flow_at.new.ended)) c.in-Some.is c.in_ok-flow_at.ensures.ended)
