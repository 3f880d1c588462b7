use Rattle.amqp_endpoint.proofs.Lengths.{said_long}
use Rattle.amqp_endpoint.proofs.laws.frames_are_as_long.Goals as goal

pub returns : goal.returns
returns c = said_long c.fields_are_as_long.ensures.octets c.frames_are_as_long.ensures.most
