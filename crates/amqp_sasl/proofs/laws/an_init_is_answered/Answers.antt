use Rattle.std.proofs.Common.{Some, true, false}
use Rattle.amqp_sasl.proofs.Passing.{answered}
use Rattle.amqp_sasl.proofs.laws.an_init_is_answered.Goals as goal

pub returns : goal.returns
returns c = record {
  admitted = λ offer t init claim body behind. answered offer (Some true) t init claim body behind;
  refused = λ offer t init claim body behind. answered offer (Some false) t init claim body behind;
}
