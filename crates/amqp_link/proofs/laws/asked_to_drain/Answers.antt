use Rattle.amqp_link.proofs.Drains.{asked_is}
use Rattle.amqp_link.proofs.laws.asked_to_drain.Goals as goal

pub returns : goal.returns
returns c = asked_is
