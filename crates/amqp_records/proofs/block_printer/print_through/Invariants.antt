use Rattle.std.proofs.Common.{ℕ, ◌<◌, List, length, IsTrue}
use Rattle.std.specs.Io.KnownBytes.{Consumes}
use Rattle.amqp_frame.specs.Devices.{device_inner, has_failed, reads_ahead}
use Rattle.amqp_records.specs.Blocks.{IsTorn}
use Rattle.amqp_records.specs.BlockPrinting.{HasTold}
use Rattle.amqp_records.proofs.block_printer.print_through.Given as goal

abbrev pub invariant-loop-alloc : goal.invariant-loop-alloc
invariant-loop-alloc g l = record {
  some : 0 < length l.piece;
  reads : ¬ (IsTrue (has_failed l.reader));
  writes : ¬ (IsTrue (has_failed l.writer));
  told : (came : List ℕ) × Consumes (g.R.Read.remaining (device_inner l.fn.reader)) (g.R.Read.remaining (device_inner l.reader)) came
      × HasTold l.output l.max_message (g.W.Write.contents (device_inner l.fn.writer)) (g.W.Write.contents (device_inner l.writer)) l.due.number l.due.place l.arrived.items came;
  torn : IsTorn l.max_message l.arrived.items;
}

abbrev pub decreases-loop-alloc : goal.decreases-loop-alloc
decreases-loop-alloc g l = reads_ahead l.reader
