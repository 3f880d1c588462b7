use Rattle.std.proofs.Common.{◌≤◌}
use Rattle.amqp_spool_records.specs.Tellings.{MayComeFrom}
use Rattle.amqp_spool_records.proofs.batches.tell_batch.Given as goal

abbrev pub invariant-records : goal.invariant-records
invariant-records g l = record { rises : l.fn.due ≤ l.due; may : MayComeFrom (g.V.Visitor.may_come l.visitor) l.due }
