use Rattle.std.proofs.Common.{◌≡◌, drop}
use Rattle.std.specs.Option.{option_map}
use Rattle.amqp_endpoint.specs.Limits.{longer, longest}
use Rattle.amqp_endpoint.proofs.limits.longest.Given as goal

-- the one that was found, or one of those that are left, is the longest of all
abbrev pub invariant-loop-limit : goal.invariant-loop-limit
invariant-loop-limit g l = longer (option_map (λ r. r.now) l.found) (longest l.name (drop l.limit-index l.limits)) ≡ longest l.name l.limits
