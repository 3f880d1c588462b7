use Rattle.std.proofs.Common.{◌≡◌, ℕ, ◌+◌, ◌-◌, ◌^◌, ◌<◌, ◌≤◌, List, [], ◌++◌, Option, IsTrue, length, take}
use Rattle.amqp_frame.specs.Devices.{device_inner, has_failed}
use Rattle.amqp_dump.specs.Steps.{IsReady, taken_by}
use Rattle.amqp_dump.specs.Printing.{HasPrinted}
use Rattle.amqp_dump.proofs.printer.print_piece.Given as goal

abbrev pub invariant-loop-is_fault : goal.invariant-loop-is_fault
invariant-loop-is_fault g l = record {
  within : l.at ≤ length l.piece;
  unmarked : ¬ (IsTrue (has_failed l.writer));
  ready : IsReady l.scanner;
  line : l.lines.begun ≡ [];
  fits : taken_by l.scanner + (length l.piece - l.at) < 2 ^ 64;
  printed : (held : Option (List ℕ)) (before : List ℕ) → HasPrinted held (g.W.Write.contents (device_inner l.fn.writer)) [] l.fn.scanner before
      → HasPrinted held (g.W.Write.contents (device_inner l.writer)) (l.lines.whole) l.scanner (before ++ take l.at l.piece);
}

abbrev pub decreases-loop-is_fault : goal.decreases-loop-is_fault
decreases-loop-is_fault g l = length l.piece - l.at
