use Rattle.std.proofs.Common.{◌≤◌, length}
use Rattle.amqp_endpoint.specs.Limits.{AreFine}
use Rattle.amqp_endpoint.proofs.limits.fault.Given as goal

-- the first ones are fine
abbrev pub invariant-loop-i : goal.invariant-loop-i
invariant-loop-i g l = record {
  few : length l.limits ≤ 16;
  fine : AreFine l.limits l.i;
}
