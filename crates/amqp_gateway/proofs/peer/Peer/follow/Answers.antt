use Rattle.std.proofs.Common.{refl}
use Rattle.amqp_gateway.specs.HubCalls.{takes}
use Rattle.amqp_gateway.proofs.HubRuns.{rules}
use Rattle.amqp_gateway.proofs.peer.Peer.follow.Goals as goal

pub returns-in-Some-clause-ran : goal.returns-in-Some-clause-ran
returns-in-Some-clause-ran g c = rules g.K.Keeper takes c.args.hub.now c.rule.new.self c.rule.ensures.limit c.rule.ensures.keeper c.in-Some.key c.args.rule c.rule.result refl refl c.rule.ensures.ruled c.rule.ensures.refused
