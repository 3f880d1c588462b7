use Rattle.amqp_spool.proofs.EntryTexts.{introductions_short}
use Rattle.amqp_spool.proofs.laws.introductions_are_short.Goals as goal

pub returns : goal.returns
returns c = introductions_short
