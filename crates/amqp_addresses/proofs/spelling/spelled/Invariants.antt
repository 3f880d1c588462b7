-- amqp_addresses/proofs/spelling/spelled/Invariants.antt
use Rattle.std.proofs.Common.{◌≡◌, ◌≤◌, ◌-◌, drop, length}
use Rattle.amqp_addresses.specs.Spelling.{spelled}
use Rattle.amqp_addresses.proofs.Spellings.{behind}
use Rattle.amqp_addresses.proofs.spelling.spelled.Given as goal

-- the bytes so far, and those that the rest spells, are what all of it spells
abbrev pub invariant-loop-at : goal.invariant-loop-at
invariant-loop-at l = record {
  within : l.at ≤ length l.text;
  whole : behind l.bytes.items (spelled (drop l.at l.text)) ≡ spelled l.text;
}

abbrev pub decreases-loop-at : goal.decreases-loop-at
decreases-loop-at l = length l.text - l.at
