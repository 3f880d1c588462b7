use Rattle.std.proofs.Common.{[], ◌∷◌, ◌≡◌, subst, ap, sym, ◌∙◌}
use Rattle.amqp_perform.specs.Said.{Said}
use Rattle.amqp_session.specs.Calls as call
use Rattle.amqp_session.specs.Calls.{call_event}
use Rattle.amqp_session.specs.Faults.{link_flow}
use Rattle.amqp_session.specs.Links.{with_link}
use Rattle.amqp_session.specs.Sessions.{SessionState, session_after}
use Rattle.amqp_session.proofs.Dones.{call_apart, call_may}
use Rattle.amqp_session.proofs.Lent.{asked, flow_after}
use Rattle.amqp_session.proofs.Indexed.{after_same, on_counted}
use Rattle.amqp_session.specs.Sessions as event
use Rattle.amqp_link.specs.Links.{DrainAsked}
use Rattle.std.proofs.Common.{refl}
use Rattle.amqp_session.proofs.session.Session.drain.Goals as goal

pub invariant_of-self-2 : goal.invariant_of-self-2
invariant_of-self-2 g c = record {
  apart =
      let done = asked c.self.inside.state c.args.handle c.in-Some.link.now c.drain.new.self c.in-Some.ensures.number c.in-Some.ensures.value c.drain.ensures in
      call_apart c.open_ids_grow_by_heads.ensures c.self.inside.state (with_link c.self.inside.state c.args.handle c.drain.new.self) (call.Drain c.args.handle) c.self.invariant.apart tt done.0 done.1;
  indexed =
      let done = asked c.self.inside.state c.args.handle c.in-Some.link.now c.drain.new.self c.in-Some.ensures.number c.in-Some.ensures.value c.drain.ensures in
      after_same c.self.inside.index c.self.inside.state (with_link c.self.inside.state c.args.handle c.drain.new.self) (event.Called c.args.handle DrainAsked) done.1
      (λ id place. on_counted id c.args.handle DrainAsked c.self.inside.state.links place (λ l. refl)) c.self.invariant.indexed;
}

pub returns-clause-may : goal.returns-clause-may
returns-clause-may g c =
    let done = asked c.self.inside.state c.args.handle c.in-Some.link.now c.drain.new.self c.in-Some.ensures.number c.in-Some.ensures.value c.drain.ensures in
    call_may c.self.inside.state c.args.self.now (call.Drain c.args.handle) c.self.view_is c.self.invariant.apart tt done.0

pub returns-clause-new : goal.returns-clause-new
returns-clause-new g c =
    let done = asked c.self.inside.state c.args.handle c.in-Some.link.now c.drain.new.self c.in-Some.ensures.number c.in-Some.ensures.value c.drain.ensures in
    subst (λ (t : SessionState). with_link c.self.inside.state c.args.handle c.drain.new.self ≡ session_after t (call_event t (call.Drain c.args.handle))) c.self.view_is done.1

pub returns-clause-answer : goal.returns-clause-answer
returns-clause-answer g c =
    let done = asked c.self.inside.state c.args.handle c.in-Some.link.now c.drain.new.self c.in-Some.ensures.number c.in-Some.ensures.value c.drain.ensures in
    ap (λ (t : SessionState). link_flow t c.args.handle) (sym (subst (λ (t : SessionState). with_link c.self.inside.state c.args.handle c.drain.new.self ≡ session_after t (call_event t (call.Drain c.args.handle)))
    c.self.view_is done.1))
    ∙ flow_after c.self.inside.state c.args.handle c.in-Some.link.now c.drain.new.self c.stated-stated.result _ c.in-Some.ensures.value c.stated-stated.ensures c.flow_stating.ensures
    ∙ ap (λ (x : Said). x ∷ []) (sym c.flow.ensures)
