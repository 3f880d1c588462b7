use Rattle.amqp_serve.specs.Policies.{rule_of}
use Rattle.amqp_serve.proofs.Cuts.{served_is_made}
use Rattle.amqp_serve.proofs.laws.serving_follows_the_units.Goals as goal

pub returns : goal.returns
returns c p = served_is_made (rule_of p)
