use Rattle.amqp_reason.proofs.Spelled.{error_short, rejected_short}
use Rattle.amqp_reason.proofs.laws.spellings_are_short.Goals as goal

pub returns-clause-error : goal.returns-clause-error
returns-clause-error c = λ r valid. error_short r valid

pub returns-clause-rejected : goal.returns-clause-rejected
returns-clause-rejected c = λ r valid. rejected_short r valid
