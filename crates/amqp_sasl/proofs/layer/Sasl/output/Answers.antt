use Rattle.amqp_sasl.proofs.Steps.{drained}
use Rattle.amqp_sasl.proofs.layer.Sasl.output.Goals as goal

pub returns-clause-exact : goal.returns-clause-exact
returns-clause-exact c =
    rw (← c.self.view_is, c.read_into.ensures.left) (λ answer more. drained c.self.inside.stage c.self.inside.offer answer c.self.inside.kept.init c.self.inside.kept.rest c.self.inside.unsent more c.read_into.result)
