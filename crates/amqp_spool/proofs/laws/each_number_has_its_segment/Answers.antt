use Rattle.amqp_spool.proofs.BackNumbers.{number_there}
use Rattle.amqp_spool.proofs.laws.each_number_has_its_segment.Goals as goal

pub returns : goal.returns
returns c = number_there
