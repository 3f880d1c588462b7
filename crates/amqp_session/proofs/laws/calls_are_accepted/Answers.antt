use Rattle.amqp_session.proofs.Accepts.{calls_accepted}
use Rattle.amqp_session.proofs.laws.calls_are_accepted.Goals as goal

pub returns : goal.returns
returns c = calls_accepted
