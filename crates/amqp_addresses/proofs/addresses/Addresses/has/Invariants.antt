-- amqp_addresses/proofs/addresses/Addresses/has/Invariants.antt
use Rattle.std.proofs.Common.{◌≡◌, false, take}
use Rattle.std.specs.List.{list_any}
use Rattle.amqp_addresses.specs.Files.{is_same}
use Rattle.amqp_addresses.proofs.addresses.Addresses.has.Given as goal

-- none of the first ones does
abbrev pub invariant-loop-earlier : goal.invariant-loop-earlier
invariant-loop-earlier l = list_any (λ s. is_same s l.entry) (take l.earlier-index l.self) ≡ false
