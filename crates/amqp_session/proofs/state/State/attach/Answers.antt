use Rattle.std.proofs.Common.{arith, ap, sym, subst}
use Rattle.std.proofs.lemmas.Result.{err_from_is_err_and}
use Rattle.std.proofs.Common.{◌≤◌, None, Some}
use Rattle.amqp_session.specs.Sessions.{SessionState, LiveLink, handles}
use Rattle.amqp_session.specs.Frames.{attaching}
use Rattle.amqp_session.specs.declared.slot.Slot.TheVariants.{Live}
use Rattle.amqp_session.proofs.States.{grown, attached_there, refused_there, attach_told, reached_more, reached_set}
use Rattle.amqp_session.proofs.state.State.attach.Goals as goal

pub invariant_of-self : goal.invariant_of-self
invariant_of-self g c =
    (reached_more c.self.inside.terms c.self.inside.table.items c.reach.new.table.items c.self.invariant
    (let within : c.args.attach.now.handle ≤ c.self.inside.terms.handle_max = (subst (λ (t : SessionState). c.args.attach.now.handle ≤ t.terms.handle_max) (sym c.self.view_is) c.requires) in
    c.reach.ensures.most (handles c.self.inside.terms) (omega (arith, within)) c.self.invariant.reached))

pub returns-in_err-reach-clause-err : goal.returns-in_err-reach-clause-err
returns-in_err-reach-clause-err g c =
    let p = err_from_is_err_and c.from_residual.result c.from_residual.ensures.1 in rw p.1
    (grown c.self.inside.terms c.self.inside.window c.self.inside.next_incoming_id c.self.inside.table.items c.args.self.now c.self.view_is c.self.invariant c.reach.new.table.items
    c.reach.ensures.same)

pub invariant_of-self-in_err-begun-in-None : goal.invariant_of-self-in_err-begun-in-None
invariant_of-self-in_err-begun-in-None g c =
    (reached_more c.self.inside.terms c.self.inside.table.items c.reach.new.table.items c.self.invariant
    (let within : c.args.attach.now.handle ≤ c.self.inside.terms.handle_max = (subst (λ (t : SessionState). c.args.attach.now.handle ≤ t.terms.handle_max) (sym c.self.view_is) c.requires) in
    c.reach.ensures.most (handles c.self.inside.terms) (omega (arith, within)) c.self.invariant.reached))

pub returns-in_err-begun-in-None-clause-err : goal.returns-in_err-begun-in-None-clause-err
returns-in_err-begun-in-None-clause-err g c =
    let p = err_from_is_err_and c.from_residual-in_err-begun-in-None.result c.from_residual-in_err-begun-in-None.ensures.1 in rw p.1
    (grown c.self.inside.terms c.self.inside.window c.self.inside.next_incoming_id c.self.inside.table.items c.args.self.now c.self.view_is c.self.invariant c.reach.new.table.items
    c.reach.ensures.same)

pub invariant_of-self-in-None : goal.invariant_of-self-in-None
invariant_of-self-in-None g c =
    reached_set c.self.inside.terms c.reach.new.table.items c.args.attach.now.handle _ (reached_more c.self.inside.terms c.self.inside.table.items c.reach.new.table.items c.self.invariant
    (let within : c.args.attach.now.handle ≤ c.self.inside.terms.handle_max = (subst (λ (t : SessionState). c.args.attach.now.handle ≤ t.terms.handle_max) (sym c.self.view_is) c.requires) in
    c.reach.ensures.most (handles c.self.inside.terms) (omega (arith, within)) c.self.invariant.reached))

pub invariant_of-self-in-Some-refusal : goal.invariant_of-self-in-Some-refusal
invariant_of-self-in-Some-refusal g c =
    reached_set c.self.inside.terms c.reach.new.table.items c.args.attach.now.handle _ (reached_more c.self.inside.terms c.self.inside.table.items c.reach.new.table.items c.self.invariant
    (let within : c.args.attach.now.handle ≤ c.self.inside.terms.handle_max = (subst (λ (t : SessionState). c.args.attach.now.handle ≤ t.terms.handle_max) (sym c.self.view_is) c.requires) in
    c.reach.ensures.most (handles c.self.inside.terms) (omega (arith, within)) c.self.invariant.reached))

pub returns-in_ok-begun-in-None-clause-new : goal.returns-in_ok-begun-in-None-clause-new
returns-in_ok-begun-in-None-clause-new g c =
    attached_there c.self.inside.terms c.self.inside.window c.self.inside.next_incoming_id c.self.inside.table.items c.args.self.now c.self.view_is c.self.invariant c.reach.new.table.items
    c.reach.ensures.same (attaching c.args.attach.now c.args.bounds) c.index_mut.result.now _ c.self.ranges.1.1.1.0.1 c.index_mut.ensures.value c.in_ok-reach.ensures.reached
    (let within : c.args.attach.now.handle ≤ c.self.inside.terms.handle_max = (subst (λ (t : SessionState). c.args.attach.now.handle ≤ t.terms.handle_max) (sym c.self.view_is) c.requires) in
    c.reach.ensures.most (handles c.self.inside.terms) (omega (arith, within)) c.self.invariant.reached) (sym c.in-None.ensures) (ap (λ (l : LiveLink). Live l) c.in_ok-begun-in-None.ensures)

pub returns-in_ok-begun-in-None-clause-report : goal.returns-in_ok-begun-in-None-clause-report
returns-in_ok-begun-in-None-clause-report g c =
    attach_told c.self.inside.terms c.self.inside.window c.self.inside.next_incoming_id c.self.inside.table.items c.args.self.now c.self.view_is c.self.invariant c.reach.new.table.items
    c.reach.ensures.same (attaching c.args.attach.now c.args.bounds) None (sym c.in-None.ensures)

pub returns-in-Some-refusal-clause-new : goal.returns-in-Some-refusal-clause-new
returns-in-Some-refusal-clause-new g c =
    refused_there c.self.inside.terms c.self.inside.window c.self.inside.next_incoming_id c.self.inside.table.items c.args.self.now c.self.view_is c.self.invariant c.reach.new.table.items
    c.reach.ensures.same (attaching c.args.attach.now c.args.bounds) c.index_mut-in-Some-refusal.result.now c.in-Some-refusal.condition c.self.ranges.1.1.1.0.1 c.index_mut-in-Some-refusal.ensures.value
    c.in_ok-reach.ensures.reached
    (let within : c.args.attach.now.handle ≤ c.self.inside.terms.handle_max = (subst (λ (t : SessionState). c.args.attach.now.handle ≤ t.terms.handle_max) (sym c.self.view_is) c.requires) in
    c.reach.ensures.most (handles c.self.inside.terms) (omega (arith, within)) c.self.invariant.reached) (sym c.in-Some-refusal.ensures)

pub returns-in-Some-refusal-clause-report : goal.returns-in-Some-refusal-clause-report
returns-in-Some-refusal-clause-report g c =
    attach_told c.self.inside.terms c.self.inside.window c.self.inside.next_incoming_id c.self.inside.table.items c.args.self.now c.self.view_is c.self.invariant c.reach.new.table.items
    c.reach.ensures.same (attaching c.args.attach.now c.args.bounds) (Some c.in-Some-refusal.condition) (sym c.in-Some-refusal.ensures)
