use Rattle.amqp_spool.proofs.Clearing.{settles_here}
use Rattle.amqp_spool.proofs.laws.settles_here.Goals as goal

pub returns : goal.returns
returns c = settles_here
