use Rattle.amqp_link.proofs.Settlements.{settled_count}
use Rattle.amqp_link.proofs.laws.dispositions_settle_what_is_open.Goals as goal

pub returns : goal.returns
returns c = settled_count
