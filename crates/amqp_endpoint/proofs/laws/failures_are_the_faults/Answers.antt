use Rattle.amqp_endpoint.specs.Lines.{line_of}
use Rattle.amqp_endpoint.proofs.Failures.{failures}
use Rattle.amqp_endpoint.proofs.laws.failures_are_the_faults.Goals as goal

pub returns : goal.returns
returns c = λ s u. failures s (line_of s u)
