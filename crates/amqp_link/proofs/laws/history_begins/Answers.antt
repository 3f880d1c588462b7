use Rattle.amqp_link.proofs.Steps.{begins_sound}
use Rattle.amqp_link.proofs.laws.history_begins.Goals as goal

pub returns : goal.returns
returns c = begins_sound
