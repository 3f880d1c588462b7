use Rattle.std.proofs.Common.{length}
use Rattle.amqp_spool.proofs.EntryLists.{Passed}
use Rattle.amqp_spool.proofs.entry.holds_entries.Given as goal

abbrev pub invariant-entries : goal.invariant-entries
invariant-entries l = record { passed : Passed l.fn.body l.rest }

-- each entry leaves less
abbrev pub decreases-entries : goal.decreases-entries
decreases-entries l = length l.rest
