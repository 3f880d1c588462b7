use Rattle.amqp_types.proofs.Calls.{decoded_found, decoded_again, rest_found, rest_again, tree_again}
use Rattle.amqp_types.proofs.laws.reading_is_exact.Goals as goal

pub returns-clause-found : goal.returns-clause-found
returns-clause-found c = decoded_found

pub returns-clause-only : goal.returns-clause-only
returns-clause-only c = decoded_again

pub returns-clause-skip_found : goal.returns-clause-skip_found
returns-clause-skip_found c = rest_found

pub returns-clause-skip_only : goal.returns-clause-skip_only
returns-clause-skip_only c = rest_again

pub returns-clause-value_only : goal.returns-clause-value_only
returns-clause-value_only c = tree_again
