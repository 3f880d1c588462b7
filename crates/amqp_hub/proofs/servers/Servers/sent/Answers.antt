use Rattle.std.proofs.Common.{ap, refl}
use Rattle.amqp_hub.specs.Turns.{ServersState}
use Rattle.amqp_hub.proofs.Turning.{sends_at}
use Rattle.amqp_hub.proofs.servers.Servers.sent.Goals as goal

pub returns-clause-sent : goal.returns-clause-sent
returns-clause-sent g c =
    sends_at c.args.self.now.members c.self.inside.members _ (ap (λ (v : ServersState). v.members) c.self.view_is) c.args.key c.in-Some.member.now c.sent.new.self c.in-Some.ensures.value refl c.args.n c.sent.ensures
