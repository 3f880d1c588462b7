use Rattle.amqp_spool.proofs.Clearing.{is_body_anew}
use Rattle.amqp_spool.proofs.laws.is_body_anew.Goals as goal

pub returns : goal.returns
returns c = is_body_anew
