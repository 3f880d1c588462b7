use Rattle.amqp_spool.proofs.Clearing.{settles_anew}
use Rattle.amqp_spool.proofs.laws.settles_anew.Goals as goal

pub returns : goal.returns
returns c = settles_anew
