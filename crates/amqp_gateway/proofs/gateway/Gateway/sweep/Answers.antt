use Rattle.amqp_gateway.specs.HubCalls.{tells}
use Rattle.amqp_gateway.proofs.HubRuns.{went_on}
use Rattle.amqp_gateway.proofs.HubTurns.{gone_then}
use Rattle.amqp_gateway.proofs.gateway.Gateway.sweep.Goals as goal

pub returns-in_err-judge-clause-ran : goal.returns-in_err-judge-clause-ran
returns-in_err-judge-clause-ran g c = went_on g.K.Keeper tells c.args.self.now.hub c.loop-at.self.hub c.judge.new.self.hub c.loop-at.invariant.ran c.judge.ensures.ran

pub loop-at-preserved : goal.loop-at-preserved
loop-at-preserved g c = record {
  gone_on = gone_then c.args.self.now c.loop-at.self c.judge.new.self c.loop-at.invariant.gone_on c.judge.ensures.gone_on;
  ran = went_on g.K.Keeper tells c.args.self.now.hub c.loop-at.self.hub c.judge.new.self.hub c.loop-at.invariant.ran c.judge.ensures.ran;
}
