use Rattle.amqp_gateway.specs.HubCalls.{tells}
use Rattle.amqp_gateway.proofs.HubRuns.{went_on}
use Rattle.amqp_gateway.proofs.HubTurns.{gone_then}
use Rattle.amqp_gateway.proofs.gateway.Gateway.end_all.Goals as goal

pub loop-at-preserved : goal.loop-at-preserved
loop-at-preserved g c = record {
  gone_on = gone_then c.args.self.now c.loop-at.self c.end_one.new.self c.loop-at.invariant.gone_on c.end_one.ensures.gone_on;
  ran = went_on g.K.Keeper tells c.args.self.now.hub c.loop-at.self.hub c.end_one.new.self.hub c.loop-at.invariant.ran c.end_one.ensures.ran;
}
