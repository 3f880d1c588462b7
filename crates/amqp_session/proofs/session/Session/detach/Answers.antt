use Rattle.std.proofs.Common.{◌∙◌}
use Rattle.amqp_session.specs.Calls as call
use Rattle.amqp_session.proofs.Dones.{call_apart, call_may}
use Rattle.amqp_session.proofs.Indexed.{after_left, gone_left, leaves_counted}
use Rattle.amqp_session.specs.Sessions as event
use Rattle.amqp_session.proofs.session.Session.detach.Goals as goal

pub invariant_of-self-2 : goal.invariant_of-self-2
invariant_of-self-2 g c = record {
  apart =
      call_apart c.open_ids_grow_by_heads.ensures c.self.inside.state c.detach.new.self (call.Detach c.args.handle) c.self.invariant.apart tt c.in_ok-dropped.ensures.accepted c.in_ok-dropped.ensures.new;
  indexed =
      after_left c.args.handle c.self.inside.index c.forget_link.new.self c.self.inside.state c.detach.new.self (event.Detached c.args.handle) c.in_ok-dropped.ensures.new
      (λ id place. leaves_counted id c.args.handle c.self.inside.state.links place)
      (λ id low. c.forget_link.ensures id low ∙ gone_left c.args.handle id c.detach.new.ended c.self.inside.index c.self.inside.state.links c.self.invariant.indexed low c.in_ok-dropped.ensures.ended)
      c.self.invariant.indexed;
}

pub returns-clause-may : goal.returns-clause-may
returns-clause-may g c =
    call_may c.self.inside.state c.args.self.now (call.Detach c.args.handle) c.self.view_is c.self.invariant.apart tt c.in_ok-dropped.ensures.accepted
