use Rattle.amqp_spool.specs.EntryReading.{entry_in}
use Rattle.amqp_spool.proofs.EntryLists.{shorter}
use Rattle.amqp_spool_records.proofs.batches.count_in.Goals as goal

pub entries-smaller : goal.entries-smaller
entries-smaller c = shorter c.entries.rest.now c.in-Some.behind.now (entry_in c.in-Some.entry) c.in-Some.ensures.some
