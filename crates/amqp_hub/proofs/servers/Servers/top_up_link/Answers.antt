use Rattle.std.proofs.Common.{ap, refl}
use Rattle.amqp_hub.specs.Turns.{ServersState}
use Rattle.amqp_hub.proofs.LinkCalls.{topped_at, topped_not}
use Rattle.amqp_hub.proofs.servers.Servers.top_up_link.Goals as goal

pub returns-clause-granted : goal.returns-clause-granted
returns-clause-granted g c =
    topped_at c.args.self.now.members c.self.inside.members _ (ap (λ (v : ServersState). v.members) c.self.view_is) c.args.key c.in-Some.member.now c.top_up_link.new.self c.in-Some.ensures.value refl c.top_up_link.result _ _ _ c.top_up_link.ensures

pub returns-clause-refused : goal.returns-clause-refused
returns-clause-refused g c =
    topped_not c.args.self.now.members c.self.inside.members _ (ap (λ (v : ServersState). v.members) c.self.view_is) c.args.key c.in-Some.member.now c.top_up_link.new.self c.in-Some.ensures.value refl c.top_up_link.result _ _ _ c.top_up_link.ensures
