use Rattle.std.proofs.Common.{◌≡◌, [], None, subst, arith}
use Rattle.amqp_sasl.specs.declared.layer.Stage.TheVariants as stage
use Rattle.amqp_sasl.specs.Exchanges.{SaslState, IsAsked, onward}
use Rattle.amqp_sasl.proofs.Steps.{not_asked}
use Rattle.amqp_sasl.proofs.layer.Sasl.asked.Goals as goal

pub returns-in-Header : goal.returns-in-Header
returns-in-Header c =
    subst (λ (s : SaslState). IsAsked None (onward s.stage s.offer None s.init s.kept []).standing) c.self.view_is
    (not_asked c.self.inside.stage c.self.inside.offer c.self.inside.kept.init c.self.inside.kept.rest c.self.inside.unsent c.self.invariant (λ (e : c.self.inside.stage ≡ stage.Ask). grind arith))
