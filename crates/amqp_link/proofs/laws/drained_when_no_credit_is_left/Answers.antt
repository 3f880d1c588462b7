use Rattle.amqp_link.proofs.Drains.{drained_is}
use Rattle.amqp_link.proofs.laws.drained_when_no_credit_is_left.Goals as goal

pub returns : goal.returns
returns c = drained_is
