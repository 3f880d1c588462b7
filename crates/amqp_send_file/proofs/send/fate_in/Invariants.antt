use Rattle.std.proofs.Common.{◌-◌, ◌≤◌, length, IsTrue}
use Rattle.amqp_frame.specs.Devices.{has_failed}
use Rattle.amqp_send_file.proofs.send.fate_in.Given as goal

abbrev pub invariant-units : goal.invariant-units
invariant-units g l = record {
  within : l.at ≤ length l.piece;
  unmarked : ¬ (IsTrue (has_failed l.writer));
}

abbrev pub decreases-units : goal.decreases-units
decreases-units g l = length l.piece - l.at
