-- amqp_addresses/proofs/lines/len_before/Invariants.antt
use Rattle.std.proofs.Common.{◌≡◌, ◌<◌, ℕ, false, get_or}
use Rattle.std.specs.Prelude.{◌==◌}
use Rattle.amqp_addresses.proofs.lines.len_before.Given as goal

-- none of the first ones is it
abbrev pub invariant-loop-at : goal.invariant-loop-at
invariant-loop-at l = (k : ℕ) → k < l.at → (get_or l.text k 0 == l.end) ≡ false
