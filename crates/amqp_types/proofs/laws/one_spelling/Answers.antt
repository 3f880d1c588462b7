use Rattle.amqp_types.proofs.Again.{one_spelling}
use Rattle.amqp_types.proofs.laws.one_spelling.Goals as goal

pub returns : goal.returns
returns c = one_spelling
