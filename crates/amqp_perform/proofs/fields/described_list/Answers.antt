use Rattle.std.proofs.Common.{arith}
use Rattle.std.proofs.lemmas.Grind.{common_steps}
use Rattle.amqp_perform.proofs.Fronts.{usual_front}
use Rattle.amqp_perform.proofs.fields.described_list.Goals as goal

-- the list behind the usual front
pub returns-in_ok-count-in-0 : goal.returns-in_ok-count-in-0
returns-in_ok-count-in-0 c = grind (arith, common_steps, usual_front, c.of.ensures.count, c.of.ensures.items)
