use Rattle.amqp_session.proofs.Counts.{places_counted, place_used, place_kept}
use Rattle.amqp_session.proofs.laws.places_are_counted.Goals as goal

pub returns : goal.returns
returns c = record { history = places_counted; transfer = place_used; flow = place_kept }
