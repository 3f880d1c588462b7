use Rattle.amqp_session.proofs.Bounds.{bytes_counted}
use Rattle.amqp_session.proofs.laws.held_is_counted.Goals as goal

pub returns : goal.returns
returns c = bytes_counted c.open_deliveries_are_selected.ensures.bytes
