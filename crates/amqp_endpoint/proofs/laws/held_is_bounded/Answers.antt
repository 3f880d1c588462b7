use Rattle.amqp_endpoint.proofs.Bounds.{connection_within}
use Rattle.amqp_endpoint.proofs.laws.held_is_bounded.Goals as goal

pub returns : goal.returns
returns c = connection_within c.held_is_bounded.ensures
