use Rattle.std.proofs.Common.{◌≡◌, subst}
use Rattle.amqp_session.specs.Calls as call
use Rattle.amqp_session.specs.Calls.{call_event}
use Rattle.amqp_session.specs.Links.{with_link}
use Rattle.amqp_session.specs.Sessions.{SessionState, session_after}
use Rattle.amqp_session.proofs.Dones.{call_apart, call_may}
use Rattle.amqp_session.proofs.Lent.{handed, unchanged, apart_still}
use Rattle.amqp_session.specs.Indexes.{IsIndexed}
use Rattle.std.proofs.Common.{refl, sym}
use Rattle.amqp_session.proofs.Indexed.{taken_indexed}
use Rattle.amqp_session.proofs.session.Session.take.Goals as goal

pub invariant_of-self-2 : goal.invariant_of-self-2
invariant_of-self-2 g c = record {
  apart =
      let done = (handed c.self.inside.state c.args.handle c.in-Some.link.now c.take.new.self c.in-Some.ensures.number c.in-Some.ensures.value c.in-Some-take.taken c.in-Some-take.ensures.some).0 in
      call_apart c.open_ids_grow_by_heads.ensures c.self.inside.state (with_link c.self.inside.state c.args.handle c.take.new.self) (call.Take c.args.handle) c.self.invariant.apart tt done.0 done.1;
  indexed =
      taken_indexed c.self.inside.index c.close.new.self c.self.inside.state c.args.handle c.in-Some.link.now c.take.new.self c.in-Some-take.taken c.in-Some.ensures.number c.in-Some.ensures.value
      c.in-Some-take.ensures.some c.close.ensures c.self.invariant.indexed;
}

pub returns-clause-may : goal.returns-clause-may
returns-clause-may g c =
    let done = (handed c.self.inside.state c.args.handle c.in-Some.link.now c.take.new.self c.in-Some.ensures.number c.in-Some.ensures.value c.in-Some-take.taken c.in-Some-take.ensures.some).0 in
    call_may c.self.inside.state c.args.self.now (call.Take c.args.handle) c.self.view_is c.self.invariant.apart tt done.0

pub returns-clause-new : goal.returns-clause-new
returns-clause-new g c =
    let done = (handed c.self.inside.state c.args.handle c.in-Some.link.now c.take.new.self c.in-Some.ensures.number c.in-Some.ensures.value c.in-Some-take.taken c.in-Some-take.ensures.some).0 in
    subst (λ (t : SessionState). with_link c.self.inside.state c.args.handle c.take.new.self ≡ session_after t (call_event t (call.Take c.args.handle))) c.self.view_is done.1

pub invariant_of-self-in_default-take : goal.invariant_of-self-in_default-take
invariant_of-self-in_default-take g c = record {
  apart =
      apart_still c.self.inside.state c.args.handle c.in-Some.link.now c.take.new.self c.in-Some.ensures.value c.in_default-take.ensures.none.1 c.self.invariant.apart;
  indexed =
      subst (λ (t : SessionState). IsIndexed c.self.inside.index t.links)
      (sym (unchanged c.self.inside.state c.args.handle c.in-Some.link.now c.take.new.self c.in-Some.ensures.value c.in_default-take.ensures.none.1 c.self.inside.state refl)) c.self.invariant.indexed;
}

pub returns-in_default-take-clause-err : goal.returns-in_default-take-clause-err
returns-in_default-take-clause-err g c = unchanged c.self.inside.state c.args.handle c.in-Some.link.now c.take.new.self c.in-Some.ensures.value c.in_default-take.ensures.none.1 c.args.self.now c.self.view_is
