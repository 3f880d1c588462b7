use Rattle.amqp_session.proofs.RangeFaults.{settle_is}
use Rattle.amqp_session.proofs.laws.a_settle_is_a_range_of_one.Goals as goal

pub returns : goal.returns
returns c = settle_is
