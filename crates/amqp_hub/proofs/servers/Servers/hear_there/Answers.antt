use Rattle.std.proofs.Common.{ap, refl, sym, ◌∙◌}
use Rattle.amqp_serve.specs.Noting.{stepped_by}
use Rattle.amqp_hub.specs.Turns.{ServersState}
use Rattle.amqp_hub.proofs.Turning.{hears_at}
use Rattle.amqp_hub.proofs.servers.Servers.hear_there.Goals as goal

pub returns-clause-heard : goal.returns-clause-heard
returns-clause-heard g c =
    hears_at c.args.self.now.members c.self.inside.members _ (ap (λ (v : ServersState). v.members) c.self.view_is) c.args.key c.in-Some.member.now c.hear.new.self c.in-Some.ensures.value refl c.args.piece.now (stepped_by c.hear.result.0 c.hear.result.1 c.hear.new.note) _ _ (sym c.hear_fault.ensures ∙ c.in_default-hear_fault.is) c.hear.ensures
