use Rattle.amqp_perform.proofs.OtherStates.{no_outcome}
use Rattle.amqp_perform.proofs.StateLaws.{outcome_found, outcome_again}
use Rattle.amqp_perform.proofs.laws.outcomes_are_found.Goals as goal

pub returns-clause-first : goal.returns-clause-first
returns-clause-first c = outcome_found

pub returns-clause-spelled : goal.returns-clause-spelled
returns-clause-spelled c = outcome_again

pub returns-clause-other : goal.returns-clause-other
returns-clause-other c = no_outcome
