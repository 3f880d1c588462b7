use Rattle.amqp_session.proofs.Names.{names_one}
use Rattle.amqp_session.proofs.laws.a_settle_names_one_delivery.Goals as goal

pub returns : goal.returns
returns c = names_one
