use Rattle.amqp_link.proofs.Steps.{goes_on_sound}
use Rattle.amqp_link.proofs.laws.history_goes_on.Goals as goal

pub returns : goal.returns
returns c = goes_on_sound
