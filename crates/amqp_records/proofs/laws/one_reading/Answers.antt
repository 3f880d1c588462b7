use Rattle.amqp_records.proofs.Fronts.{one_reading}
use Rattle.amqp_records.proofs.laws.one_reading.Goals as goal

pub returns : goal.returns
returns c = one_reading
