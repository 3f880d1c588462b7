use Rattle.std.proofs.Common.{◌≡◌, ◌≤◌, ◌-◌, drop, length}
use Rattle.std.specs.Option.{option_copied}
use Rattle.amqp_proxy.specs.Tlvs.{tlvs_of, only}
use Rattle.amqp_proxy.proofs.Values.{pending}
use Rattle.amqp_proxy.proofs.tlvs.only.Given as goal

-- what was found so far, and what the rest has, is what all of it has
abbrev pub invariant-loop-at : goal.invariant-loop-at
invariant-loop-at l = record {
  within : l.at ≤ length l.bytes;
  whole : pending l.kind (option_copied l.found) (tlvs_of (drop l.at l.bytes)) ≡ only l.kind l.bytes;
}

abbrev pub decreases-loop-at : goal.decreases-loop-at
decreases-loop-at l = length l.bytes - l.at
