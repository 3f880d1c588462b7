use Rattle.amqp_pair.proofs.Accepting.{taken, heeded}
use Rattle.amqp_pair.proofs.laws.what_has_no_fault_fails_nothing.Goals as goal

pub returns-clause-transfer : goal.returns-clause-transfer
returns-clause-transfer c = taken

pub returns-clause-flow : goal.returns-clause-flow
returns-clause-flow c = heeded
