use Rattle.amqp_frame.proofs.Fronts.{one_front}
use Rattle.amqp_frame.proofs.laws.no_unit_begins_another.Goals as goal

pub returns : goal.returns
returns c = one_front
