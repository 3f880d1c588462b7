use Rattle.amqp_perform.proofs.Lengths.{null_adds_no_more}
use Rattle.amqp_perform.proofs.laws.a_null_adds_no_more.Goals as goal

pub returns : goal.returns
returns c = null_adds_no_more
