use Rattle.std.proofs.Common.{◌<◌, length, IsTrue}
use Rattle.amqp_frame.specs.Devices.{device_inner, has_failed, reads_ahead}
use Rattle.amqp_records.specs.Blocks.{IsTorn}
use Rattle.amqp_records.proofs.BlockFronts.{HasCome}
use Rattle.amqp_records.proofs.block_file.read_through.Given as goal

abbrev pub invariant-loop-reader : goal.invariant-loop-reader
invariant-loop-reader g l = record {
  some : 0 < length l.piece;
  reads : ¬ (IsTrue (has_failed l.reader));
  came : HasCome l.max_message (g.R.Read.remaining (device_inner l.fn.reader)) (g.R.Read.remaining (device_inner l.reader)) l.blocks l.arrived.items;
  torn : IsTorn l.max_message l.arrived.items;
}

abbrev pub decreases-loop-reader : goal.decreases-loop-reader
decreases-loop-reader g l = reads_ahead l.reader
