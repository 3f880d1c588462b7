use Rattle.amqp_link.proofs.Steps.{known_after, known_may, known_drained}
use Rattle.amqp_link.proofs.laws.absent_count_is_the_known_one.Goals as goal

pub returns : goal.returns
returns c = record { after = known_after; may = known_may; drained = known_drained }
