use Rattle.std.proofs.Common.{◌≡◌, ◌-◌, length, drop}
use Rattle.amqp_link.specs.Keeping.{keys_of}
use Rattle.amqp_link.proofs.open_ids.next_key.Given as goal

-- the places that were passed are empty
abbrev pub invariant-loop-at : goal.invariant-loop-at
invariant-loop-at l = keys_of (drop l.at l.places) ≡ keys_of (drop l.from l.places)

abbrev pub decreases-loop-at : goal.decreases-loop-at
decreases-loop-at l = length l.places - l.at
