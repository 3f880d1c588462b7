use Rattle.amqp_spool.proofs.Lives.{loss_is_found}
use Rattle.amqp_spool.proofs.laws.each_loss_is_found.Goals as goal

pub returns : goal.returns
returns c = loss_is_found
