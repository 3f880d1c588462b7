use Rattle.std.proofs.Common.{◌-◌, length}
use Rattle.amqp_spool.specs.Batches.{IsThrough}
use Rattle.amqp_spool.proofs.scanning.scan.Given as goal

abbrev pub invariant-batches : goal.invariant-batches
invariant-batches l = record { through : IsThrough l.fn.secret l.fn.first l.fn.bytes l.scanned }

-- each batch leaves less
abbrev pub decreases-batches : goal.decreases-batches
decreases-batches l = length l.fn.bytes - l.scanned.end
