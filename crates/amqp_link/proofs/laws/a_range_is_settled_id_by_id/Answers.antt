use Rattle.amqp_link.proofs.Ranges.{settled_one_by_one, counted_one_by_one}
use Rattle.amqp_link.proofs.laws.a_range_is_settled_id_by_id.Goals as goal

pub returns : goal.returns
returns c = record { after = settled_one_by_one; count = counted_one_by_one }
