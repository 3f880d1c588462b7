use Rattle.std.proofs.Common.{◌≡◌, length, IsTrue}
use Rattle.amqp_frame.specs.Devices.{has_failed, reads_ahead}
use Rattle.amqp_send_file.proofs.send.await_close.Given as goal

abbrev pub invariant-reads : goal.invariant-reads
invariant-reads g l = record {
  unmarked : ¬ (IsTrue (has_failed l.reader));
  long : length l.piece ≡ length l.initial.piece;
}

abbrev pub decreases-reads : goal.decreases-reads
decreases-reads g l = reads_ahead l.reader
