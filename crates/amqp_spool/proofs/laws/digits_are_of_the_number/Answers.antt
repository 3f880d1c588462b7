use Rattle.amqp_spool.proofs.PositionSame.{digits_are}
use Rattle.amqp_spool.proofs.laws.digits_are_of_the_number.Goals as goal

pub returns : goal.returns
returns c = digits_are
