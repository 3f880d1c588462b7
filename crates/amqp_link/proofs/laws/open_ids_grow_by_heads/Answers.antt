use Rattle.amqp_link.proofs.Counts.{ids_grow}
use Rattle.amqp_link.proofs.laws.open_ids_grow_by_heads.Goals as goal

pub returns : goal.returns
returns c = ids_grow
