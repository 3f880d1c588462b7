use Rattle.amqp_send.proofs.Runs.{moments}
use Rattle.amqp_send.proofs.laws.each_call_has_its_history.Goals as goal

pub returns : goal.returns
returns c = moments (record { is = c.steps_give_the_history.ensures.is; may = c.steps_give_the_history.ensures.may; complete = c.steps_give_the_history.ensures.written })
