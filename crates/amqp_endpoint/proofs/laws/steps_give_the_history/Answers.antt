use Rattle.amqp_endpoint.proofs.Steps.{all_sound}
use Rattle.amqp_endpoint.proofs.laws.steps_give_the_history.Goals as goal

pub returns : goal.returns
returns c = all_sound c.connection_begins.ensures c.connection_goes_on.ensures
