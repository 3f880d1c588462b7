use Rattle.std.proofs.Common.{◌↔◌, ◌-◌, ◌≤◌, length, drop}
use Rattle.amqp_records.specs.Blocks.{AllRecords}
use Rattle.amqp_records.proofs.blocks.are_records.Given as goal

abbrev pub invariant-loop-len : goal.invariant-loop-len
invariant-loop-len l = record {
  within : l.at ≤ length l.bytes;
  records : AllRecords l.max_message l.bytes ↔ AllRecords l.max_message (drop l.at l.bytes);
}

abbrev pub decreases-loop-len : goal.decreases-loop-len
decreases-loop-len l = length l.bytes - l.at
