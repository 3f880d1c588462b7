use Rattle.amqp_pair.proofs.Stands.{stands}
use Rattle.amqp_pair.proofs.laws.a_connection_stands_as_the_message_level.Goals as goal

pub returns : goal.returns
returns c = stands
