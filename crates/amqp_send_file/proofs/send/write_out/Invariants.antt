use Rattle.std.proofs.Common.{IsTrue}
use Rattle.amqp_frame.specs.Devices.{has_failed}
use Rattle.amqp_send.specs.Sendings.{left_to_send}
use Rattle.amqp_send_file.proofs.send.write_out.Given as goal

abbrev pub invariant-pieces : goal.invariant-pieces
invariant-pieces g l = ¬ (IsTrue (has_failed l.writer))

abbrev pub decreases-pieces : goal.decreases-pieces
decreases-pieces g l = left_to_send l.sender.sending
