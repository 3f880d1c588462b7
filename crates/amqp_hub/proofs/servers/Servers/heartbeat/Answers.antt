use Rattle.std.proofs.Common.{ap, refl}
use Rattle.amqp_hub.specs.Turns.{ServersState}
use Rattle.amqp_hub.proofs.Turning.{beats, beats_not}
use Rattle.amqp_hub.proofs.servers.Servers.heartbeat.Goals as goal

pub returns-clause-beat : goal.returns-clause-beat
returns-clause-beat g c =
    beats c.args.self.now.members c.self.inside.members _ (ap (λ (v : ServersState). v.members) c.self.view_is) c.args.key c.in-Some.member.now c.heartbeat.new.self c.in-Some.ensures.value refl c.heartbeat.result c.heartbeat.ensures.beat
    c.heartbeat.ensures.same

pub returns-clause-refused : goal.returns-clause-refused
returns-clause-refused g c =
    beats_not c.args.self.now.members c.self.inside.members _ (ap (λ (v : ServersState). v.members) c.self.view_is) c.args.key c.in-Some.member.now c.heartbeat.new.self c.in-Some.ensures.value refl c.heartbeat.result
    c.heartbeat.ensures.fault c.heartbeat.ensures.same
