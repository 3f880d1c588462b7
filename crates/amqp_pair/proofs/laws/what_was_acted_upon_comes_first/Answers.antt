use Rattle.amqp_pair.proofs.Ways.{front}
use Rattle.amqp_pair.proofs.laws.what_was_acted_upon_comes_first.Goals as goal

pub returns : goal.returns
returns c = front c.no_unit_begins_another.ensures c.each_unit_has_bytes.ensures
