use Rattle.amqp_link.proofs.Counts.{named_is}
use Rattle.amqp_link.proofs.laws.receiver_settles_what_it_was_handed.Goals as goal

pub returns : goal.returns
returns c = named_is
