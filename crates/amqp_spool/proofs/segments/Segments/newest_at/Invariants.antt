use Rattle.std.proofs.Common.{take}
use Rattle.amqp_spool.specs.Counting.{IsNewestAt}
use Rattle.amqp_spool.proofs.segments.Segments.newest_at.Given as goal

abbrev pub invariant-loop-segment : goal.invariant-loop-segment
invariant-loop-segment l = record { best : IsNewestAt l.passed (take l.segment-index l.segment-items) l.newest }
