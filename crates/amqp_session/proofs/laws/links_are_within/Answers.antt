use Rattle.amqp_session.proofs.Lives.{link_within}
use Rattle.amqp_session.proofs.laws.links_are_within.Goals as goal

pub returns : goal.returns
returns c = link_within
