use Rattle.amqp_spool.proofs.PositionSame.{one_position}
use Rattle.amqp_spool.proofs.laws.one_position_of_a_text.Goals as goal

pub returns : goal.returns
returns c = one_position
