use Rattle.amqp_frame.proofs.Readings.{reading_ends}
use Rattle.amqp_frame.proofs.laws.reading_ends.Goals as goal

pub returns : goal.returns
returns c = reading_ends
