use Rattle.amqp_session.proofs.Steps.{all_sound}
use Rattle.amqp_session.proofs.laws.steps_give_the_history.Goals as goal

pub returns : goal.returns
returns c = all_sound c.session_begins.ensures c.session_goes_on.ensures
