use Rattle.amqp_spool.specs.Names.{nobody}
use Rattle.amqp_spool.proofs.Naming.{named_at}
use Rattle.amqp_spool.proofs.laws.each_is_named.Goals as goal

pub returns : goal.returns
returns c = named_at nobody
