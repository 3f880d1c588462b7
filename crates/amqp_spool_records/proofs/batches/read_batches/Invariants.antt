use Rattle.std.proofs.Common.{◌≤◌}
use Rattle.amqp_spool_records.specs.Tellings.{MayComeFrom}
use Rattle.amqp_spool_records.proofs.batches.read_batches.Given as goal

abbrev pub invariant-batches : goal.invariant-batches
invariant-batches g l = record { rises : l.fn.due ≤ l.due; may : MayComeFrom (g.V.Visitor.may_come l.visitor) l.due }

-- each batch leaves less
abbrev pub decreases-batches : goal.decreases-batches
decreases-batches g l = l.at.left
