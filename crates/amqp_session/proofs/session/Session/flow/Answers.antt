use Rattle.amqp_session.specs.Frames.{Flows, flowing}
use Rattle.amqp_session.proofs.Dones.{frame_apart, frame_may}
use Rattle.amqp_session.proofs.Indexed.{flow_indexed}
use Rattle.amqp_session.proofs.session.Session.flow.Goals as goal

pub invariant_of-self-2 : goal.invariant_of-self-2
invariant_of-self-2 g c = record {
  apart =
      frame_apart c.open_ids_grow_by_heads.ensures c.self.inside.state c.flow.new.self (Flows (flowing c.args.flow.now)) c.self.invariant.apart c.is_long.ensures
      tt c.in_ok-report.ensures.accepted c.in_ok-report.ensures.new;
  indexed =
      flow_indexed c.self.inside.index c.flowed.new.self c.self.inside.state c.flow.new.self (flowing c.args.flow.now) c.in_ok-report.report c.flow.new.ended c.in_ok-report.ensures.new c.in_ok-report.ensures.report c.in_ok-report.ensures.ended c.flowed.ensures c.self.invariant.indexed;
}

pub returns-clause-may : goal.returns-clause-may
returns-clause-may g c =
    frame_may c.self.inside.state c.args.self.now (Flows (flowing c.args.flow.now)) c.self.view_is c.is_long.ensures
    tt c.in_ok-report.ensures.accepted
