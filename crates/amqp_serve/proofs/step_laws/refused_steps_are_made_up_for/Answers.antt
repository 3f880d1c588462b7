use Rattle.amqp_serve.proofs.Interrupted.{served_again}
use Rattle.amqp_serve.proofs.step_laws.refused_steps_are_made_up_for.Goals as goal

pub returns : goal.returns
returns c r more old mid new held now last kept keeps lasts steps i y least idle = served_again r more old mid new held now last kept keeps lasts steps i y least idle
