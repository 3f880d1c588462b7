use Rattle.amqp_spool.proofs.Naming.{the_last}
use Rattle.amqp_spool.proofs.laws.the_last_is_known.Goals as goal

pub returns : goal.returns
returns c = the_last
