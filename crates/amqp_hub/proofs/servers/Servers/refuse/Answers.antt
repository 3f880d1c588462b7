use Rattle.std.proofs.Common.{ap, refl}
use Rattle.amqp_hub.specs.Turns.{ServersState}
use Rattle.amqp_hub.proofs.LinkCalls.{asked_at, asked_not}
use Rattle.amqp_hub.proofs.servers.Servers.refuse.Goals as goal

pub returns-clause-asked : goal.returns-clause-asked
returns-clause-asked g c =
    asked_at c.args.self.now.members c.self.inside.members _ (ap (λ (v : ServersState). v.members) c.self.view_is) c.args.key c.in-Some.member.now c.refuse.new.self c.in-Some.ensures.value refl c.refuse.result _ _ c.refuse.ensures

pub returns-clause-refused : goal.returns-clause-refused
returns-clause-refused g c =
    asked_not c.args.self.now.members c.self.inside.members _ (ap (λ (v : ServersState). v.members) c.self.view_is) c.args.key c.in-Some.member.now c.refuse.new.self c.in-Some.ensures.value refl c.refuse.result _ _ c.refuse.ensures
