use Rattle.amqp_spool.proofs.EntryTexts.{one_list}
use Rattle.amqp_spool.proofs.laws.one_list_of_entries.Goals as goal

pub returns : goal.returns
returns c = one_list
