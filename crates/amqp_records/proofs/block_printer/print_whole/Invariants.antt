use Rattle.std.proofs.Common.{ℕ, ◌-◌, ◌≤◌, List, length, drop, Option, IsTrue}
use Rattle.amqp_frame.specs.Devices.{device_inner, has_failed}
use Rattle.amqp_records.specs.BlockPrinting.{HasTold}
use Rattle.amqp_records.proofs.block_printer.print_whole.Given as goal

abbrev pub invariant-loop-size : goal.invariant-loop-size
invariant-loop-size g l = record {
  within : l.at ≤ length l.bytes;
  writes : ¬ (IsTrue (has_failed l.writer));
  told : (held : Option (List ℕ)) (came : List ℕ) → HasTold l.output l.max_message held (g.W.Write.contents (device_inner l.fn.writer)) l.fn.due.number l.fn.due.place l.bytes came
      → HasTold l.output l.max_message held (g.W.Write.contents (device_inner l.writer)) l.due.number l.due.place (drop l.at l.bytes) came;
}

abbrev pub decreases-loop-size : goal.decreases-loop-size
decreases-loop-size g l = length l.bytes - l.at
