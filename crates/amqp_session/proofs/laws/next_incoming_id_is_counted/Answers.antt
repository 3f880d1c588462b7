use Rattle.amqp_session.proofs.Counts.{counted_since, counted_from_begin}
use Rattle.amqp_session.proofs.laws.next_incoming_id_is_counted.Goals as goal

pub returns : goal.returns
returns c = record { flow = counted_since; begin = counted_from_begin }
