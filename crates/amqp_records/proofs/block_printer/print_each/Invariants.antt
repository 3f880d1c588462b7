use Rattle.std.proofs.Common.{◌-◌, ◌≤◌, length, IsTrue}
use Rattle.amqp_frame.specs.Devices.{device_inner, has_failed}
use Rattle.amqp_records.proofs.BlockTellings.{HasToldSome}
use Rattle.amqp_records.proofs.block_printer.print_each.Given as goal

abbrev pub invariant-loop-len : goal.invariant-loop-len
invariant-loop-len g l = record {
  within : l.at ≤ length l.records;
  writes : ¬ (IsTrue (has_failed l.writer));
  some : HasToldSome l.output l.max_message l.connection l.records (g.W.Write.contents (device_inner l.fn.writer)) (g.W.Write.contents (device_inner l.writer)) l.first l.number l.at;
}

abbrev pub decreases-loop-len : goal.decreases-loop-len
decreases-loop-len g l = length l.records - l.at
