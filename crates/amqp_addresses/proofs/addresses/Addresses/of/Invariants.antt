-- amqp_addresses/proofs/addresses/Addresses/of/Invariants.antt
use Rattle.std.specs.Option.{option_map}
use Rattle.amqp_addresses.proofs.Reading.{Reads, left_len}
use Rattle.amqp_addresses.proofs.addresses.Addresses.of.Given as goal

abbrev pub invariant-loop-left : goal.invariant-loop-left
invariant-loop-left l = Reads l.credit l.text l.addresses l.number (option_map (λ r. r.now) l.left)

abbrev pub decreases-loop-left : goal.decreases-loop-left
decreases-loop-left l = left_len (option_map (λ r. r.now) l.left)
