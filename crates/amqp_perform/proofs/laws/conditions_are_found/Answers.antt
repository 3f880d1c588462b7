use Rattle.amqp_perform.proofs.OtherStates.{no_condition}
use Rattle.amqp_perform.proofs.StateLaws.{condition_found, condition_again}
use Rattle.amqp_perform.proofs.laws.conditions_are_found.Goals as goal

pub returns-clause-first : goal.returns-clause-first
returns-clause-first c = condition_found

pub returns-clause-spelled : goal.returns-clause-spelled
returns-clause-spelled c = condition_again

pub returns-clause-other : goal.returns-clause-other
returns-clause-other c = no_condition
