use Rattle.amqp_session.proofs.Bounds.{held_within}
use Rattle.amqp_session.proofs.laws.held_is_bounded.Goals as goal

pub returns : goal.returns
returns c = held_within c.held_is_bounded.ensures
