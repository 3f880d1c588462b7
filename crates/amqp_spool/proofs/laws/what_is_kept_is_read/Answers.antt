use Rattle.amqp_spool.proofs.Lives.{told_are_read}
use Rattle.amqp_spool.proofs.laws.what_is_kept_is_read.Goals as goal

pub returns : goal.returns
returns c = told_are_read
