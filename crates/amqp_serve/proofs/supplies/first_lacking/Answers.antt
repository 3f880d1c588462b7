use Rattle.std.proofs.Common.{arith}
use Rattle.amqp_endpoint.specs.Takings.{link_at}
use Rattle.amqp_serve.proofs.Supplied.{none_lacking}
use Rattle.amqp_serve.proofs.supplies.first_lacking.Goals as goal

pub returns-in-Some-clause-passed : goal.returns-in-Some-clause-passed
returns-in-Some-clause-passed g c = λ h a b. none_lacking c.args.rule.now _ (link_at c.args.endpoint.now.connection c.args.channel h) (omega arith) (c.in-Some.ensures.2 h a (omega (arith, b)))

pub returns-in-None-clause-passed : goal.returns-in-None-clause-passed
returns-in-None-clause-passed g c = λ h a b. none_lacking c.args.rule.now _ (link_at c.args.endpoint.now.connection c.args.channel h) (omega arith) (c.in-None.ensures h a)
