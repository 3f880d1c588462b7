use Rattle.std.proofs.Common.{◌≡◌, subst, ap, sym, ◌∙◌}
use Rattle.amqp_session.specs.Calls as call
use Rattle.amqp_session.specs.Calls.{call_event}
use Rattle.amqp_session.specs.Faults.{link_flow}
use Rattle.amqp_session.specs.Links.{with_link}
use Rattle.amqp_session.specs.Sessions.{SessionState, session_after}
use Rattle.amqp_session.proofs.Dones.{call_apart, call_may}
use Rattle.amqp_session.proofs.Lent.{granted, flow_after, unchanged, apart_still}
use Rattle.amqp_session.proofs.Indexed.{after_same, on_counted}
use Rattle.amqp_session.specs.Sessions as event
use Rattle.amqp_link.specs.Links.{Granted}
use Rattle.std.proofs.Common.{refl}
use Rattle.amqp_session.specs.Indexes.{IsIndexed}
use Rattle.amqp_session.proofs.session.Session.grant_stated.Goals as goal

pub invariant_of-self-2 : goal.invariant_of-self-2
invariant_of-self-2 g c = record {
  apart =
      let done = granted c.self.inside.state c.args.handle c.in-Some.link.now c.grant.new.self c.in-Some.ensures.number c.in-Some.ensures.value c.args.n c.in-Ok.ensures.may c.in-Ok.ensures.new in
      call_apart c.open_ids_grow_by_heads.ensures c.self.inside.state (with_link c.self.inside.state c.args.handle c.grant.new.self) (call.Grant c.args.handle c.args.n) c.self.invariant.apart tt done.0 done.1;
  indexed =
      let done = granted c.self.inside.state c.args.handle c.in-Some.link.now c.grant.new.self c.in-Some.ensures.number c.in-Some.ensures.value c.args.n c.in-Ok.ensures.may c.in-Ok.ensures.new in
      after_same c.self.inside.index c.self.inside.state (with_link c.self.inside.state c.args.handle c.grant.new.self) (event.Called c.args.handle (Granted c.args.n)) done.1
      (λ id place. on_counted id c.args.handle (Granted c.args.n) c.self.inside.state.links place (λ l. refl)) c.self.invariant.indexed;
}

pub returns-clause-may : goal.returns-clause-may
returns-clause-may g c =
    let done = granted c.self.inside.state c.args.handle c.in-Some.link.now c.grant.new.self c.in-Some.ensures.number c.in-Some.ensures.value c.args.n c.in-Ok.ensures.may c.in-Ok.ensures.new in
    call_may c.self.inside.state c.args.self.now (call.Grant c.args.handle c.args.n) c.self.view_is c.self.invariant.apart tt done.0

pub returns-clause-new : goal.returns-clause-new
returns-clause-new g c =
    let done = granted c.self.inside.state c.args.handle c.in-Some.link.now c.grant.new.self c.in-Some.ensures.number c.in-Some.ensures.value c.args.n c.in-Ok.ensures.may c.in-Ok.ensures.new in
    subst (λ (t : SessionState). with_link c.self.inside.state c.args.handle c.grant.new.self ≡ session_after t (call_event t (call.Grant c.args.handle c.args.n))) c.self.view_is done.1

pub returns-clause-answer : goal.returns-clause-answer
returns-clause-answer g c =
    let done = granted c.self.inside.state c.args.handle c.in-Some.link.now c.grant.new.self c.in-Some.ensures.number c.in-Some.ensures.value c.args.n c.in-Ok.ensures.may c.in-Ok.ensures.new in
    ap (λ (t : SessionState). link_flow t c.args.handle) (sym (subst (λ (t : SessionState). with_link c.self.inside.state c.args.handle c.grant.new.self ≡ session_after t (call_event t (call.Grant c.args.handle c.args.n)))
    c.self.view_is done.1))
    ∙ flow_after c.self.inside.state c.args.handle c.in-Some.link.now c.grant.new.self c.stated-stated.result _ c.in-Some.ensures.value c.stated-stated.ensures c.flow_stating.ensures

pub invariant_of-self-in_default-grant : goal.invariant_of-self-in_default-grant
invariant_of-self-in_default-grant g c = record {
  apart =
      apart_still c.self.inside.state c.args.handle c.in-Some.link.now c.grant.new.self c.in-Some.ensures.value c.in_default-grant.ensures.err c.self.invariant.apart;
  indexed =
      subst (λ (t : SessionState). IsIndexed c.self.inside.index t.links)
      (sym (unchanged c.self.inside.state c.args.handle c.in-Some.link.now c.grant.new.self c.in-Some.ensures.value c.in_default-grant.ensures.err c.self.inside.state refl)) c.self.invariant.indexed;
}

pub returns-in_default-grant-clause-err : goal.returns-in_default-grant-clause-err
returns-in_default-grant-clause-err g c = unchanged c.self.inside.state c.args.handle c.in-Some.link.now c.grant.new.self c.in-Some.ensures.value c.in_default-grant.ensures.err c.args.self.now c.self.view_is
