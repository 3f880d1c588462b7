use Rattle.amqp_records.proofs.BlockFronts.{beginning_torn}
use Rattle.amqp_records.proofs.laws.beginnings_are_torn.Goals as goal

pub returns : goal.returns
returns c = beginning_torn
