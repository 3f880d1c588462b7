use Rattle.amqp_spool.proofs.EntryTexts.{one_entry}
use Rattle.amqp_spool.proofs.laws.one_entry_at_a_front.Goals as goal

pub returns : goal.returns
returns c = one_entry
