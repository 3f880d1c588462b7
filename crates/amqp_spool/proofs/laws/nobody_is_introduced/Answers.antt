use Rattle.amqp_spool.proofs.Naming.{nobody_introduced}
use Rattle.amqp_spool.proofs.laws.nobody_is_introduced.Goals as goal

pub returns : goal.returns
returns c = nobody_introduced
