use Rattle.amqp_link.proofs.Steps.{credit_granted, credit_more}
use Rattle.amqp_link.proofs.laws.credit_rises_by_grants.Goals as goal

pub returns : goal.returns
returns c = record { granted = λ terms h n sound. credit_granted terms h n sound.spent; most = credit_more }
