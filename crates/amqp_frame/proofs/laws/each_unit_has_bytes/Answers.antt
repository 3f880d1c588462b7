use Rattle.amqp_frame.proofs.Readings.{unit_length}
use Rattle.amqp_frame.proofs.laws.each_unit_has_bytes.Goals as goal

pub returns : goal.returns
returns c = unit_length
