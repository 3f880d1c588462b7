use Rattle.amqp_session.proofs.Accepts.{frames_accepted}
use Rattle.amqp_session.proofs.laws.frames_are_accepted.Goals as goal

pub returns : goal.returns
returns c = frames_accepted
