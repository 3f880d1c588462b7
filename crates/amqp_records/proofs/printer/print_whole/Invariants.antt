use Rattle.std.proofs.Common.{ℕ, ◌-◌, ◌≤◌, List, length, drop, Option, IsTrue}
use Rattle.amqp_frame.specs.Devices.{device_inner, has_failed}
use Rattle.amqp_records.specs.Printing.{HasPrinted}
use Rattle.amqp_records.proofs.printer.print_whole.Given as goal

abbrev pub invariant-loop-len : goal.invariant-loop-len
invariant-loop-len g l = record {
  within : l.at ≤ length l.bytes;
  writes : ¬ (IsTrue (has_failed l.writer));
  printed : (held : Option (List ℕ)) (came : List ℕ) → HasPrinted l.output l.max_message held (g.W.Write.contents (device_inner l.fn.writer)) l.fn.due.number l.fn.due.place l.bytes came
      → HasPrinted l.output l.max_message held (g.W.Write.contents (device_inner l.writer)) l.due.number l.due.place (drop l.at l.bytes) came;
}

abbrev pub decreases-loop-len : goal.decreases-loop-len
decreases-loop-len g l = length l.bytes - l.at
