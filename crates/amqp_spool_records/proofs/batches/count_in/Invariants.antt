use Rattle.std.proofs.Common.{length}
use Rattle.amqp_spool_records.proofs.batches.count_in.Given as goal

-- each entry leaves less
abbrev pub decreases-entries : goal.decreases-entries
decreases-entries l = length l.rest
