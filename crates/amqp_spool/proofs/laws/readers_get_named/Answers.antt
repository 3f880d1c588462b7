use Rattle.amqp_spool.proofs.NamesRead.{reads_named}
use Rattle.amqp_spool.proofs.laws.readers_get_named.Goals as goal

pub returns : goal.returns
returns c = reads_named
