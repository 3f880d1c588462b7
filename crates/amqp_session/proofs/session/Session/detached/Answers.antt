use Rattle.std.proofs.Common.{◌≡◌, ◌∙◌, subst}
use Rattle.amqp_session.specs.Sessions.{SessionState, session_after}
use Rattle.amqp_session.specs.Frames.{Detaches}
use Rattle.amqp_session.specs.Faults.{event_of}
use Rattle.std.proofs.lemmas.Result.{err_from_is_err_and}
use Rattle.amqp_session.specs.Faults.{session_fault, IsRefusal}
use Rattle.std.specs.Prelude.{None}
use Rattle.amqp_session.proofs.Dones.{frame_apart, frame_may}
use Rattle.amqp_session.proofs.Indexed.{after_left, gone_left, gone_counted}
use Rattle.amqp_session.specs.Sessions as event
use Rattle.amqp_session.proofs.session.Session.detached.Goals as goal

pub invariant_of-self-2 : goal.invariant_of-self-2
invariant_of-self-2 g c = record {
  apart =
      frame_apart c.open_ids_grow_by_heads.ensures c.self.inside.state c.detached.new.self (Detaches c.args.detach.now.handle c.args.detach.now.closed) c.self.invariant.apart c.is_long.ensures
      tt (c.in_ok-detached.ensures.accepted c.args.detach.now.closed) (c.in_ok-detached.ensures.new c.args.detach.now.closed);
  indexed =
      after_left c.args.detach.now.handle c.self.inside.index c.forget_link.new.self c.self.inside.state c.detached.new.self (event.PeerDetached c.args.detach.now.handle)
      (c.in_ok-detached.ensures.new c.args.detach.now.closed) (λ id place. gone_counted id c.args.detach.now.handle c.self.inside.state.links place)
      (λ id low. c.forget_link.ensures id low ∙ gone_left c.args.detach.now.handle id c.detached.new.ended c.self.inside.index c.self.inside.state.links c.self.invariant.indexed low c.in_ok-detached.ensures.ended)
      c.self.invariant.indexed;
}

pub returns-clause-may : goal.returns-clause-may
returns-clause-may g c =
    frame_may c.self.inside.state c.args.self.now (Detaches c.args.detach.now.handle c.args.detach.now.closed) c.self.view_is c.is_long.ensures
    tt (c.in_ok-detached.ensures.accepted c.args.detach.now.closed)

pub returns-in_err-detached-clause-refused : goal.returns-in_err-detached-clause-refused
returns-in_err-detached-clause-refused g c =
    let p = err_from_is_err_and c.from_residual.result c.from_residual.ensures.1 in rw (p.1, p.2)
    (subst (λ (t : SessionState). IsRefusal t (Detaches c.args.detach.now.handle c.args.detach.now.closed) c.in_err-detached.field-0.0) c.self.view_is
    (c.in_err-detached.ensures.refused c.args.detach.now.closed))

pub returns-clause-new : goal.returns-clause-new
returns-clause-new g c =
    subst (λ (t : SessionState). c.detached.new.self ≡ session_after t (event_of t (Detaches c.args.detach.now.handle c.args.detach.now.closed))) c.self.view_is
    (c.in_ok-detached.ensures.new c.args.detach.now.closed)

pub returns-clause-accepted : goal.returns-clause-accepted
returns-clause-accepted g c =
    subst (λ (t : SessionState). session_fault t (Detaches c.args.detach.now.handle c.args.detach.now.closed) ≡ None) c.self.view_is (c.in_ok-detached.ensures.accepted c.args.detach.now.closed)
