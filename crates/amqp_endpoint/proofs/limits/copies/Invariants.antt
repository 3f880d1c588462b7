use Rattle.std.proofs.Common.{◌≡◌, take}
use Rattle.amqp_endpoint.proofs.limits.copies.Given as goal

-- those so far
abbrev pub invariant-loop-limit : goal.invariant-loop-limit
invariant-loop-limit g l = l.copies.items ≡ take l.limit-index l.limits
