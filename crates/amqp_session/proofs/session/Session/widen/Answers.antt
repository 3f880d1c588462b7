use Rattle.amqp_session.specs.Calls as call
use Rattle.amqp_session.proofs.Dones.{call_apart, call_may}
use Rattle.amqp_session.proofs.Indexed.{after_same, nothing_counted}
use Rattle.amqp_session.specs.Sessions as event
use Rattle.amqp_session.proofs.session.Session.widen.Goals as goal

pub invariant_of-self-2 : goal.invariant_of-self-2
invariant_of-self-2 g c = record {
  apart =
      call_apart c.open_ids_grow_by_heads.ensures c.self.inside.state c.widen.new.self (call.Widen c.args.n) c.self.invariant.apart tt c.in_ok-widen.ensures.accepted c.in_ok-widen.ensures.new;
  indexed =
      after_same c.self.inside.index c.self.inside.state c.widen.new.self (event.Widened c.args.n) c.in_ok-widen.ensures.new (λ id place. nothing_counted id c.self.inside.state.links place) c.self.invariant.indexed;
}

pub returns-clause-may : goal.returns-clause-may
returns-clause-may g c =
    call_may c.self.inside.state c.args.self.now (call.Widen c.args.n) c.self.view_is c.self.invariant.apart tt c.in_ok-widen.ensures.accepted
