use Rattle.amqp_session.proofs.Outcomes.{settled_is_gone, told_stays}
use Rattle.amqp_session.proofs.laws.a_settle_ends_or_tells.Goals as goal

pub returns : goal.returns
returns c = record { ends = settled_is_gone; tells = told_stays }
