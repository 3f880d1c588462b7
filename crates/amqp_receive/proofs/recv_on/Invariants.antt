use Rattle.std.proofs.Common.{◌≡◌, IsTrue}
use Rattle.amqp_frame.specs.Devices.{has_failed}
use Rattle.amqp_receive.proofs.recv_on.Given as goal

abbrev pub invariant-loop-number : goal.invariant-loop-number
invariant-loop-number g l = record { unmarked : ¬ (IsTrue (has_failed l.sink)) }
