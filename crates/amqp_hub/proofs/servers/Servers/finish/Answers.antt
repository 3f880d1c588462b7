use Rattle.std.proofs.Common.{ap, refl}
use Rattle.amqp_hub.specs.Turns.{ServersState}
use Rattle.amqp_hub.proofs.Turning.{ends_so, ends_not}
use Rattle.amqp_hub.proofs.servers.Servers.finish.Goals as goal

pub returns-clause-ended : goal.returns-clause-ended
returns-clause-ended g c =
    ends_so c.args.self.now.members c.self.inside.members _ (ap (λ (v : ServersState). v.members) c.self.view_is) c.args.key c.in-Some.member.now c.finish.new.self c.in-Some.ensures.value refl c.finish.result c.finish.ensures.ended

pub returns-clause-refused : goal.returns-clause-refused
returns-clause-refused g c =
    ends_not c.args.self.now.members c.self.inside.members _ (ap (λ (v : ServersState). v.members) c.self.view_is) c.args.key c.in-Some.member.now c.finish.new.self c.in-Some.ensures.value refl c.finish.result c.finish.ensures.fault
