use Rattle.std.proofs.Common.{ap, refl}
use Rattle.amqp_hub.specs.Turns.{ServersState}
use Rattle.amqp_hub.proofs.Turning.{closed_so, closed_not}
use Rattle.amqp_hub.proofs.servers.Servers.close.Goals as goal

pub returns-clause-closed : goal.returns-clause-closed
returns-clause-closed g c =
    closed_so c.args.self.now.members c.self.inside.members _ (ap (λ (v : ServersState). v.members) c.self.view_is) c.args.key c.in-Some.member.now c.close.new.self c.in-Some.ensures.value refl c.close.result c.close.ensures.closed

pub returns-clause-refused : goal.returns-clause-refused
returns-clause-refused g c =
    closed_not c.args.self.now.members c.self.inside.members _ (ap (λ (v : ServersState). v.members) c.self.view_is) c.args.key c.in-Some.member.now c.close.new.self c.in-Some.ensures.value refl c.close.result c.close.ensures.fault
