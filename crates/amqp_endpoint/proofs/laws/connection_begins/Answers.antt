use Rattle.amqp_endpoint.proofs.Steps.{begins_sound}
use Rattle.amqp_endpoint.proofs.laws.connection_begins.Goals as goal

pub returns : goal.returns
returns c = begins_sound
