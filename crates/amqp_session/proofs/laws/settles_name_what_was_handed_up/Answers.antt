use Rattle.amqp_session.proofs.Bounds.{named_counted}
use Rattle.amqp_session.proofs.laws.settles_name_what_was_handed_up.Goals as goal

pub returns : goal.returns
returns c = named_counted c.receiver_settles_what_it_was_handed.ensures
