use Rattle.std.proofs.Common.{◌≡◌, take, length}
use Rattle.amqp_link.specs.Pieces.{total}
use Rattle.amqp_link.proofs.message.Message.to_vec.Given as goal

abbrev pub invariant-loop-index : goal.invariant-loop-index
invariant-loop-index g l = record {
  end : l.index-end ≡ length l.self-inside.blocks.before;
  copied : l.bytes.items ≡ take (total (take l.index l.self-inside.blocks.before)) l.self-inside.blocks.bytes;
}
