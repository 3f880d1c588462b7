use Rattle.std.proofs.Common.{arith, ◌≡◌, ℕ, None, Some, subst, ap, sym, ◌∙◌}
use Rattle.amqp_session.specs.declared.fault.CallFault.TheVariants as refused
use Rattle.amqp_session.specs.Calls.{standing_fault, standing_in, range_fault}
use Rattle.amqp_session.specs.Laws.{named_total}
use Rattle.amqp_session.specs.Sessions.{SessionState, SessionMay, Settled, session_after}
use Rattle.amqp_session.proofs.Lent.{awaiting, awaits}
use Rattle.amqp_session.proofs.Lookups.{found_none}
use Rattle.amqp_session.proofs.Names.{names_one}
use Rattle.amqp_session.proofs.RangeFaults.{settle_is}
use Rattle.amqp_session.proofs.RangeIndexes.{answered_is}
use Rattle.amqp_session.proofs.RangeMays.{range_ok}
use Rattle.amqp_session.proofs.session.Session.settle_named.Goals as goal

-- A range. --------------------------------------------------------------------------------------------------------------------

pub returns-then-first-last-clause-may : goal.returns-then-first-last-clause-may
returns-then-first-last-clause-may g c =
    subst (λ (t : SessionState). SessionMay t (Settled c.args.first c.args.last)) c.self.view_is (range_ok c.self.inside.state c.args.first c.args.last c.in_ok-named.ensures.accepted)

pub returns-then-first-last-clause-new : goal.returns-then-first-last-clause-new
returns-then-first-last-clause-new g c =
    subst (λ (t : SessionState). c.settle_ids.new.state ≡ session_after t (Settled c.args.first c.args.last)) c.self.view_is
    (c.settle_ids.ensures.new ∙ answered_is c.self.inside.state c.args.first c.args.last c.is_numbered.ensures)

-- One id. ---------------------------------------------------------------------------------------------------------------------

pub returns-in_default-clause-refused : goal.returns-in_default-clause-refused
returns-in_default-clause-refused g c =
    let same : c.args.first ≡ c.args.last = omega (arith, c.if-first-last.false) in
    subst (λ (n : ℕ). range_fault c.args.first n c.args.self.now ≡ Some refused.NoDelivery) same
    (subst (λ (t : SessionState). range_fault c.args.first c.args.first t ≡ Some refused.NoDelivery) c.self.view_is
    (settle_is c.self.inside.state c.args.first c.self.invariant.apart c.ranges.first.fits
    ∙ ap standing_fault (found_none c.self.inside.index c.self.inside.state.links c.self.invariant.indexed c.args.first c.ranges.first.fits (sym c.in_default.is ∙ c.get.ensures))))

pub returns-in-Some-standing_fault-clause-refused : goal.returns-in-Some-standing_fault-clause-refused
returns-in-Some-standing_fault-clause-refused g c =
    let same : c.args.first ≡ c.args.last = omega (arith, c.if-first-last.false) in
    subst (λ (n : ℕ). range_fault c.args.first n c.args.self.now ≡ Some c.in-Some-standing_fault.fault) same
    (subst (λ (t : SessionState). range_fault c.args.first c.args.first t ≡ Some c.in-Some-standing_fault.fault) c.self.view_is
    (settle_is c.self.inside.state c.args.first c.self.invariant.apart c.ranges.first.fits ∙ ap standing_fault (sym c.settle_one-standing.ensures.standing) ∙ sym c.in-Some-standing_fault.ensures))

pub returns-clause-accepted : goal.returns-clause-accepted
returns-clause-accepted g c =
    let same : c.args.first ≡ c.args.last = omega (arith, c.if-first-last.false) in
    subst (λ (n : ℕ). range_fault c.args.first n c.args.self.now ≡ None) same
    (subst (λ (t : SessionState). range_fault c.args.first c.args.first t ≡ None) c.self.view_is
    (settle_is c.self.inside.state c.args.first c.self.invariant.apart c.ranges.first.fits ∙ ap standing_fault (sym c.settle_one-standing.ensures.standing) ∙ sym c.standing_fault.ensures ∙ c.in_default-standing_fault.is))

pub returns-clause-may : goal.returns-clause-may
returns-clause-may g c =
    let same : c.args.first ≡ c.args.last = omega (arith, c.if-first-last.false) in
    subst (λ (n : ℕ). SessionMay c.args.self.now (Settled c.args.first n)) same
    (subst (λ (t : SessionState). SessionMay t (Settled c.args.first c.args.first)) c.self.view_is
    (range_ok c.self.inside.state c.args.first c.args.first
    (settle_is c.self.inside.state c.args.first c.self.invariant.apart c.ranges.first.fits ∙ ap standing_fault (sym c.settle_one-standing.ensures.standing) ∙ sym c.standing_fault.ensures ∙ c.in_default-standing_fault.is)))

pub returns-clause-new : goal.returns-clause-new
returns-clause-new g c =
    let same : c.args.first ≡ c.args.last = omega (arith, c.if-first-last.false) in
    subst (λ (n : ℕ). c.settle_one-standing.new.state ≡ session_after c.args.self.now (Settled c.args.first n)) same
    (subst (λ (t : SessionState). c.settle_one-standing.new.state ≡ session_after t (Settled c.args.first c.args.first)) c.self.view_is
    (c.settle_one-standing.ensures.settled (awaiting c.settle_one-standing.result (sym c.standing_fault.ensures ∙ c.in_default-standing_fault.is))
    ∙ answered_is c.self.inside.state c.args.first c.args.first c.is_numbered.ensures))

pub returns-clause-count : goal.returns-clause-count
returns-clause-count g c =
    let same : c.args.first ≡ c.args.last = omega (arith, c.if-first-last.false) in
    let none : standing_fault (standing_in c.args.first c.self.inside.state.links) ≡ None =
    ap standing_fault (sym c.settle_one-standing.ensures.standing) ∙ sym c.standing_fault.ensures ∙ c.in_default-standing_fault.is in
    let mode = awaits (standing_in c.args.first c.self.inside.state.links) none in
    subst (λ (t : SessionState). 1 ≡ named_total c.args.first c.args.last t) c.self.view_is
    (sym (names_one c.self.inside.state c.args.first mode.0 c.self.invariant.apart c.ranges.first.fits mode.1) ∙ ap (λ (n : ℕ). named_total c.args.first n c.self.inside.state) same)
