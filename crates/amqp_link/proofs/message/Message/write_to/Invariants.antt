use Rattle.std.proofs.Common.{◌≡◌, take, length, IsTrue}
use Rattle.std.specs.Io.KnownBytes.{Appends}
use Rattle.amqp_frame.specs.Devices.{device_inner, has_failed, has_ended, reads_left}
use Rattle.amqp_link.specs.Pieces.{total}
use Rattle.amqp_link.proofs.message.Message.write_to.Given as goal

abbrev pub invariant-loop-index : goal.invariant-loop-index
invariant-loop-index g l = record {
  end : l.index-end ≡ length l.self-inside.blocks.before;
  written : Appends (g.W.Write.contents (device_inner l.fn.writer)) (g.W.Write.contents (device_inner l.writer)) (take (total (take l.index l.self-inside.blocks.before)) l.self-inside.blocks.bytes);
  ended : has_ended l.writer ≡ has_ended l.fn.writer;
  reads : reads_left l.writer ≡ reads_left l.fn.writer;
  still : IsTrue (has_failed l.fn.writer) → l.writer ≡ l.fn.writer;
  none : length l.self-inside.blocks.bytes ≡ 0 → l.writer ≡ l.fn.writer;
}
