use Rattle.amqp_pair.proofs.Histories.{histories}
use Rattle.amqp_pair.proofs.laws.each_end_has_its_history.Goals as goal

pub returns : goal.returns
returns c = histories c.runs_have_a_history.ensures c.runs_have_a_history-2.ensures c.each_call_has_its_history.ensures
