use Rattle.std.proofs.Common.{◌-◌, length}
use Rattle.amqp_frame.specs.Rooms.{whole_length}
use Rattle.amqp_frame.specs.Splits.{IsFilled}
use Rattle.amqp_frame.proofs.split.fill_by_steps.Given as goal

abbrev pub invariant-loop-taken : goal.invariant-loop-taken
invariant-loop-taken g l = IsFilled l.max l.stage l.fn.bytes.filled l.piece l.taken l.bytes.filled (whole_length l.bytes) l.progress

abbrev pub decreases-loop-taken : goal.decreases-loop-taken
decreases-loop-taken g l = length l.piece - l.taken
