use Rattle.std.proofs.Common.{◌≡◌, [], subst, arith}
use Rattle.amqp_sasl.specs.declared.layer.Stage.TheVariants as stage
use Rattle.amqp_sasl.specs.Exchanges.{SaslState, onward}
use Rattle.amqp_sasl.proofs.Steps.{none_handed}
use Rattle.amqp_sasl.proofs.layer.Sasl.handed.Goals as goal

pub returns-in-Header-clause-handed : goal.returns-in-Header-clause-handed
returns-in-Header-clause-handed c = λ answer.
    subst (λ (s : SaslState). (onward s.stage s.offer answer s.init s.kept []).handed ≡ []) c.self.view_is
    (none_handed c.self.inside.stage c.self.inside.offer c.self.inside.kept.init c.self.inside.kept.rest c.self.inside.unsent answer c.self.invariant (λ (e : c.self.inside.stage ≡ stage.Past). grind arith))
