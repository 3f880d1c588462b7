use Rattle.std.proofs.Common.{◌≢◌, ℕ, ◌<◌, List, length, IsTrue}
use Rattle.std.specs.Io.KnownBytes.{Consumes}
use Rattle.amqp_frame.specs.Devices.{device_inner, has_failed, reads_ahead}
use Rattle.amqp_records.specs.declared.record.Front.TheVariants.{TooLong}
use Rattle.amqp_records.specs.Records.{front_of, BeginsNoRecord}
use Rattle.amqp_records.specs.Printing.{HasPrinted}
use Rattle.amqp_records.proofs.printer.print_all.Given as goal

abbrev pub invariant-loop-alloc : goal.invariant-loop-alloc
invariant-loop-alloc g l = record {
  some : 0 < length l.piece;
  reads : ¬ (IsTrue (has_failed l.reader));
  writes : ¬ (IsTrue (has_failed l.writer));
  printed : (came : List ℕ) × Consumes (g.R.Read.remaining (device_inner l.fn.reader)) (g.R.Read.remaining (device_inner l.reader)) came
      × HasPrinted l.output l.max_message (g.W.Write.contents (device_inner l.fn.writer)) (g.W.Write.contents (device_inner l.writer)) l.due.number l.due.place l.arrived.items came;
  none : BeginsNoRecord l.max_message l.arrived.items;
  short : front_of l.max_message l.arrived.items ≢ TooLong;
}

abbrev pub decreases-loop-alloc : goal.decreases-loop-alloc
decreases-loop-alloc g l = reads_ahead l.reader
