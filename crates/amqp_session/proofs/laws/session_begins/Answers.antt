use Rattle.amqp_session.proofs.Steps.{begins_sound}
use Rattle.amqp_session.proofs.laws.session_begins.Goals as goal

pub returns : goal.returns
returns c = begins_sound
