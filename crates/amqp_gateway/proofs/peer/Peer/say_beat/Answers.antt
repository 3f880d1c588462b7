use Rattle.std.proofs.Common.{refl}
use Rattle.amqp_gateway.specs.HubCalls.{tells}
use Rattle.amqp_gateway.proofs.HubRuns.{beats}
use Rattle.amqp_gateway.proofs.peer.Peer.say_beat.Goals as goal

pub returns-in_default-frame_by-clause-ran : goal.returns-in_default-frame_by-clause-ran
returns-in_default-frame_by-clause-ran g c = beats g.K.Keeper tells c.args.hub.now c.heartbeat-beat.new.self c.heartbeat-beat.ensures.limit c.heartbeat-beat.ensures.keeper c.in-Some.key c.heartbeat-beat.result refl refl c.heartbeat-beat.ensures.beat c.heartbeat-beat.ensures.refused

pub returns-clause-ran : goal.returns-clause-ran
returns-clause-ran g c = beats g.K.Keeper tells c.args.hub.now c.heartbeat-beat.new.self c.heartbeat-beat.ensures.limit c.heartbeat-beat.ensures.keeper c.in-Some.key c.heartbeat-beat.result refl refl c.heartbeat-beat.ensures.beat c.heartbeat-beat.ensures.refused
