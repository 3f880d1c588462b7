use Rattle.amqp_types.proofs.Calls.{written_again}
use Rattle.amqp_types.proofs.laws.written_is_read.Goals as goal

pub returns : goal.returns
returns c = written_again
