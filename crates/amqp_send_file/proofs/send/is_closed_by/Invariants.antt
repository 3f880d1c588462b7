use Rattle.std.proofs.Common.{◌-◌, ◌≤◌, length}
use Rattle.amqp_send_file.proofs.send.is_closed_by.Given as goal

abbrev pub invariant-units : goal.invariant-units
invariant-units g l = l.at ≤ length l.piece

abbrev pub decreases-units : goal.decreases-units
decreases-units g l = length l.piece - l.at
