-- amqp_addresses/proofs/addresses/Addresses/nearest/Invariants.antt
use Rattle.std.proofs.Common.{◌≡◌, drop}
use Rattle.std.specs.Option.{option_map}
use Rattle.amqp_addresses.specs.Lookups.{nearer, line_of}
use Rattle.amqp_addresses.proofs.addresses.Addresses.nearest.Given as goal

-- the one that was found, or one of those that are left, is the nearest of all
abbrev pub invariant-loop-entry : goal.invariant-loop-entry
invariant-loop-entry l = nearer (option_map (λ e. e.now) l.found) (line_of l.address (drop l.entry-index l.self)) ≡ line_of l.address l.self
