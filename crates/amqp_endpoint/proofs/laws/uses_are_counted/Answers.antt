use Rattle.amqp_endpoint.proofs.Uses.{use_begins, use_goes_on}
use Rattle.amqp_endpoint.proofs.laws.uses_are_counted.Goals as goal

pub returns : goal.returns
returns c = record { begins = use_begins; goes_on = use_goes_on }
