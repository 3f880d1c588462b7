use Rattle.std.proofs.Common.{◌≤◌, length, ◌-◌}
use Rattle.amqp_session.specs.Recents.{AreBelow, AreFrom}
use Rattle.amqp_session.proofs.index.Recent.search.Given as goal

abbrev pub invariant-loop-low : goal.invariant-loop-low
invariant-loop-low g l = (l.low ≤ l.high) × (l.high ≤ length l.self) × AreBelow l.id l.low l.self × AreFrom l.id l.high l.self

abbrev pub decreases-loop-low : goal.decreases-loop-low
decreases-loop-low g l = l.high - l.low
