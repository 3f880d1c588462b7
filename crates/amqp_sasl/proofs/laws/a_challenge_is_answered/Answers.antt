use Rattle.std.proofs.Common.{Some, true, false}
use Rattle.amqp_sasl.proofs.Passing.{answered_later}
use Rattle.amqp_sasl.proofs.laws.a_challenge_is_answered.Goals as goal

pub returns : goal.returns
returns c = record {
  admitted = λ offer t u init response claim body reply behind. answered_later offer (Some true) t u init response claim body reply behind;
  refused = λ offer t u init response claim body reply behind. answered_later offer (Some false) t u init response claim body reply behind;
}
