use Rattle.std.proofs.Common.{refl}
use Rattle.amqp_gateway.specs.HubCalls.{parts}
use Rattle.amqp_gateway.proofs.HubRuns.{removes}
use Rattle.amqp_gateway.proofs.peer.Peer.leave.Goals as goal

pub returns-in-Some-clause-ran : goal.returns-in-Some-clause-ran
returns-in-Some-clause-ran g c = removes g.K.Keeper parts c.args.hub.now c.remove.new.self c.remove.ensures.limit c.remove.ensures.keeper c.in-Some.key c.remove.result refl refl c.remove.ensures.gone c.remove.ensures.refused
