use Rattle.std.proofs.Common.{◌≤◌}
use Rattle.amqp_spool_records.specs.Tellings.{MayComeFrom}
use Rattle.amqp_spool_records.proofs.reader.Reader.read_older.Given as goal

abbrev pub invariant-segments : goal.invariant-segments
invariant-segments g l =
    record { rises : l.fn.self.due ≤ l.self.due; may : MayComeFrom (g.V.Visitor.may_come l.visitor) l.self.due }
