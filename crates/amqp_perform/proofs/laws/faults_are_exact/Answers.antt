use Rattle.amqp_perform.proofs.BodyLaws.{faults}
use Rattle.amqp_perform.proofs.laws.faults_are_exact.Goals as goal

pub returns : goal.returns
returns c = faults
