use Rattle.amqp_endpoint.proofs.Bounds.{connection_counted}
use Rattle.amqp_endpoint.proofs.laws.held_is_counted.Goals as goal

pub returns : goal.returns
returns c = connection_counted c.held_is_counted.ensures
