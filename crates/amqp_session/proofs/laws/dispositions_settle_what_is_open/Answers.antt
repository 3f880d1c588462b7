use Rattle.amqp_session.proofs.Bounds.{settled_counted}
use Rattle.amqp_session.proofs.laws.dispositions_settle_what_is_open.Goals as goal

pub returns : goal.returns
returns c = settled_counted c.dispositions_settle_what_is_open.ensures
