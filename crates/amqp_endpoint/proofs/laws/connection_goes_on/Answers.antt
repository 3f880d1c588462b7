use Rattle.amqp_endpoint.proofs.Steps.{goes_on_sound}
use Rattle.amqp_endpoint.proofs.laws.connection_goes_on.Goals as goal

pub returns : goal.returns
returns c = goes_on_sound c.session_begins.ensures c.session_goes_on.ensures
