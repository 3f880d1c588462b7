use Rattle.amqp_perform.proofs.WrittenLaws.{written_says}
use Rattle.amqp_perform.proofs.laws.written_is_read.Goals as goal

pub returns : goal.returns
returns c = written_says
