use Rattle.amqp_frame.proofs.Readings.{reading_stops}
use Rattle.amqp_frame.proofs.laws.reading_stops.Goals as goal

pub returns : goal.returns
returns c = reading_stops
