use Rattle.std.proofs.Common.{◌≡◌, ℕ, ◌+◌, ◌-◌, ◌^◌, ◌<◌, ◌≤◌, false, List, [], length, IsTrue}
use Rattle.std.specs.Io.KnownBytes.{IsAtEnd, Consumes}
use Rattle.amqp_frame.specs.Devices.{device_inner, has_failed, has_ended, reads_left, reads_ahead}
use Rattle.amqp_dump.specs.Steps.{IsReady, taken_by}
use Rattle.amqp_dump.specs.Printing.{HasPrinted}
use Rattle.amqp_dump.proofs.printer.print_all.Given as goal

abbrev pub invariant-loop-alloc : goal.invariant-loop-alloc
invariant-loop-alloc g l = record {
  some : 0 < length l.piece;
  reads : ¬ (IsTrue (has_failed l.reader));
  writes : ¬ (IsTrue (has_failed l.writer));
  ready : IsReady l.scanner;
  short : taken_by l.scanner < 2 ^ 64 - 1;
  empty : l.lines.whole ≡ [];
  line : l.lines.begun ≡ [];
  printed : (bytes : List ℕ) × Consumes (g.R.Read.remaining (device_inner l.fn.reader)) (g.R.Read.remaining (device_inner l.reader)) bytes
      × HasPrinted (g.W.Write.contents (device_inner l.fn.writer)) (g.W.Write.contents (device_inner l.writer)) [] l.scanner bytes;
  left : has_ended l.reader ≡ false → reads_left l.fn.reader ≤ reads_left l.reader + taken_by l.scanner;
  whole : has_ended l.fn.reader ≡ false → reads_left l.fn.reader ≡ 2 ^ 64 - 1 → IsTrue (has_ended l.reader) → IsAtEnd (g.R.Read.remaining (device_inner l.reader));
}

abbrev pub decreases-loop-alloc : goal.decreases-loop-alloc
decreases-loop-alloc g l = reads_ahead l.reader
