use Rattle.amqp_types.proofs.Exclusive.{none_misread}
use Rattle.amqp_types.proofs.laws.no_spelling_is_misread.Goals as goal

pub returns : goal.returns
returns c = none_misread
