use Rattle.amqp_link.proofs.Steps.{all_sound}
use Rattle.amqp_link.proofs.laws.steps_give_the_history.Goals as goal

pub returns : goal.returns
returns c = all_sound
