use Rattle.amqp_hub.proofs.Numbers.{from_none}
use Rattle.amqp_hub.proofs.laws.records_are_by_number.Goals as goal

pub returns : goal.returns
returns c = λ r config limit room turns answers fit key y is. from_none r config limit room turns answers fit key y is
