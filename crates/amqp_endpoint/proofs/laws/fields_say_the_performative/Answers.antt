use Rattle.amqp_endpoint.proofs.InHand.{in_hand}
use Rattle.amqp_endpoint.proofs.laws.fields_say_the_performative.Goals as goal

pub returns : goal.returns
returns c = in_hand
