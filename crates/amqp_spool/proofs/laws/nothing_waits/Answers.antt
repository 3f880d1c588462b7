use Rattle.amqp_spool.proofs.Clearing.{nothing_waits}
use Rattle.amqp_spool.proofs.laws.nothing_waits.Goals as goal

pub returns : goal.returns
returns c = nothing_waits
