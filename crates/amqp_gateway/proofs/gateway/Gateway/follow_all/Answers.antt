use Rattle.std.proofs.Common.{◌∙◌}
use Rattle.amqp_gateway.specs.HubCalls.{takes}
use Rattle.amqp_gateway.proofs.HubRuns.{went_on}
use Rattle.amqp_gateway.proofs.HubTurns.{gone_then}
use Rattle.amqp_gateway.proofs.gateway.Gateway.follow_all.Goals as goal

pub returns-in_err-follow-clause-ran : goal.returns-in_err-follow-clause-ran
returns-in_err-follow-clause-ran g c = went_on g.K.Keeper takes c.args.self.now.hub c.loop-at.self.hub c.follow.new.self.hub c.loop-at.invariant.ran c.follow.ensures.ran

pub loop-at-preserved : goal.loop-at-preserved
loop-at-preserved g c = record {
  gone_on = gone_then c.args.self.now c.loop-at.self c.follow.new.self c.loop-at.invariant.gone_on c.follow.ensures.gone_on;
  outlet = c.follow.ensures.outlet ∙ c.loop-at.invariant.outlet;
  ran = went_on g.K.Keeper takes c.args.self.now.hub c.loop-at.self.hub c.follow.new.self.hub c.loop-at.invariant.ran c.follow.ensures.ran;
}
