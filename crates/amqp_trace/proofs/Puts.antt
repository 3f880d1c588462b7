-- A line that is written in two parts.
use Rattle.std.proofs.Common.{ℕ, List, ◌++◌, Option}
use Rattle.std.proofs.KnownBytes.{Appends-trans}
use Rattle.std.specs.Io.KnownBytes.{Appends}
use Rattle.amqp_trace.specs.Lines.{IsLine, PutsLine}

-- its text, and its end
pub puts_line : (old mid new : Option (List ℕ)) (text end : List ℕ) → IsLine (text ++ end) → Appends old mid text → Appends mid new end → PutsLine old new
puts_line old mid new text end line first second = (text ++ end, line, Appends-trans old mid new text end first second)
