use Rattle.amqp_spool.proofs.NamesRead.{reads_body}
use Rattle.amqp_spool.proofs.laws.what_is_read_is_a_body.Goals as goal

pub returns : goal.returns
returns c = reads_body
