use Rattle.std.proofs.Common.{refl}
use Rattle.amqp_gateway.specs.HubCalls.{takes}
use Rattle.amqp_gateway.proofs.HubRuns.{ends}
use Rattle.amqp_gateway.proofs.peer.Peer.finish.Goals as goal

pub returns-clause-ran : goal.returns-clause-ran
returns-clause-ran g c = ends g.K.Keeper takes c.args.hub.now c.finish.new.self c.finish.ensures.limit c.finish.ensures.keeper c.in-Some.key c.finish.result refl refl c.finish.ensures.ended c.finish.ensures.refused
