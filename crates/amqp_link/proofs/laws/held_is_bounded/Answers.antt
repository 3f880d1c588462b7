use Rattle.amqp_link.proofs.Counts.{held_bounded}
use Rattle.amqp_link.proofs.laws.held_is_bounded.Goals as goal

pub returns : goal.returns
returns c = held_bounded
