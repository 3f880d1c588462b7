use Rattle.amqp_send.proofs.Runs.{runs}
use Rattle.amqp_send.proofs.laws.runs_have_a_history.Goals as goal

pub returns : goal.returns
returns c = runs (record { is = c.steps_give_the_history.ensures.is; may = c.steps_give_the_history.ensures.may; complete = c.steps_give_the_history.ensures.written })
