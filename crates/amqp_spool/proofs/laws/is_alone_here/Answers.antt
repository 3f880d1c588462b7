use Rattle.amqp_spool.proofs.Clearing.{is_alone_here}
use Rattle.amqp_spool.proofs.laws.is_alone_here.Goals as goal

pub returns : goal.returns
returns c = is_alone_here
