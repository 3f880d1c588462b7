use Rattle.std.proofs.Common.{◌-◌, ◌≤◌, List, length, drop}
use Rattle.amqp_records.specs.Blocks.{FileBlock, HoldsBlocks}
use Rattle.amqp_records.proofs.block_file.whole_len.Given as goal

abbrev pub invariant-loop-size : goal.invariant-loop-size
invariant-loop-size l = record {
  within : l.at ≤ length l.bytes;
  blocks : (blocks : List FileBlock) × HoldsBlocks l.max_message l.bytes blocks (drop l.at l.bytes);
}

abbrev pub decreases-loop-size : goal.decreases-loop-size
decreases-loop-size l = length l.bytes - l.at
