use Rattle.std.proofs.Common.{◌-◌, ◌≤◌, length}
use Rattle.amqp_trace.proofs.teller.put_frames.Given as goal

abbrev pub invariant-units : goal.invariant-units
invariant-units g l = record { within : l.at ≤ length l.bytes }

abbrev pub decreases-units : goal.decreases-units
decreases-units g l = length l.bytes - l.at
