use Rattle.std.proofs.Common.{◌≤◌, ◌≡◌, ◌∙◌, sym, subst}
use Rattle.amqp_session.specs.Sessions.{SessionState, session_after}
use Rattle.amqp_session.specs.Frames.{Attaches, attaching}
use Rattle.amqp_session.specs.Faults.{event_of}
use Rattle.amqp_session.specs.Faults.{report_of, refusal}
use Rattle.amqp_session.specs.Answers.{IsAttachAnswer}
use Rattle.amqp_session.proofs.Dones.{frame_apart, frame_may, attach_answered}
use Rattle.amqp_session.proofs.Indexed.{attach_indexed}
use Rattle.amqp_session.proofs.session.Session.attach.Goals as goal

pub invariant_of-self-2 : goal.invariant_of-self-2
invariant_of-self-2 g c = record {
  apart =
      frame_apart c.open_ids_grow_by_heads.ensures c.self.inside.state c.attach.new.self (Attaches (attaching c.args.attach.now c.args.bounds)) c.self.invariant.apart c.is_long.ensures
      (subst (λ (t : SessionState). c.args.attach.now.handle ≤ t.terms.handle_max) (sym c.self.view_is) c.requires, c.is_counted.ensures) c.in_ok-report.ensures.accepted c.in_ok-report.ensures.new;
  indexed =
      attach_indexed c.self.inside.index c.self.inside.state c.attach.new.self (attaching c.args.attach.now c.args.bounds) c.in_ok-report.ensures.new c.in_ok-report.ensures.accepted c.self.invariant.indexed;
}

pub returns-clause-may : goal.returns-clause-may
returns-clause-may g c =
    frame_may c.self.inside.state c.args.self.now (Attaches (attaching c.args.attach.now c.args.bounds)) c.self.view_is c.is_long.ensures
    (subst (λ (t : SessionState). c.args.attach.now.handle ≤ t.terms.handle_max) (sym c.self.view_is) c.requires, c.is_counted.ensures) c.in_ok-report.ensures.accepted

pub returns-clause-new : goal.returns-clause-new
returns-clause-new g c =
    subst (λ (t : SessionState). c.attach.new.self ≡ session_after t (event_of t (Attaches (attaching c.args.attach.now c.args.bounds)))) c.self.view_is c.in_ok-report.ensures.new

pub returns-clause-report : goal.returns-clause-report
returns-clause-report g c =
    c.attach_done.ensures.report ∙ (subst (λ (t : SessionState). c.in_ok-report.report ≡ report_of t (Attaches (attaching c.args.attach.now c.args.bounds))) c.self.view_is c.in_ok-report.ensures.report)

pub returns-clause-answer : goal.returns-clause-answer
returns-clause-answer g c =
    attach_answered c.args.self.now.terms (attaching c.args.attach.now c.args.bounds) c.attach_done.result.answer (refusal c.args.self.now.terms (attaching c.args.attach.now c.args.bounds))
    (subst (λ m. IsAttachAnswer m c.attach_done.result.answer) (subst (λ (t : SessionState). c.in_ok-report.report ≡ report_of t (Attaches (attaching c.args.attach.now c.args.bounds))) c.self.view_is
    c.in_ok-report.ensures.report) c.attach_done.ensures.answer)
