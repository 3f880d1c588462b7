use Rattle.amqp_session.proofs.Ids.{all_apart}
use Rattle.amqp_session.proofs.laws.open_ids_are_apart.Goals as goal

pub returns : goal.returns
returns c = all_apart c.open_ids_grow_by_heads.ensures
