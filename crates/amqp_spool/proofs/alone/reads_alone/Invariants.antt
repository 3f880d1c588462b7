use Rattle.std.proofs.Common.{◌≡◌, ℕ, ◌+◌}
use Rattle.amqp_spool.specs.Alone.{HasKnown}
use Rattle.amqp_spool.proofs.alone.reads_alone.Given as goal

abbrev pub invariant-records : goal.invariant-records
invariant-records l = record { so_far : (n : ℕ) × (n + l.left ≡ l.fn.count) × HasKnown l.fn.names l.names l.fn.body l.entries.rest.now n }

abbrev pub decreases-records : goal.decreases-records
decreases-records l = l.left
