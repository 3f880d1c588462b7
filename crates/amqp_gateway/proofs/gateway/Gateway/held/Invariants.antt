use Rattle.std.proofs.Common.{◌≤◌, ◌+◌, ◌^◌, ◌-◌, min}
use Rattle.amqp_hub.specs.Turns.{all_held}
use Rattle.amqp_gateway.proofs.gateway.Gateway.held.Given as goal

abbrev pub invariant-loop-peer : goal.invariant-loop-peer
invariant-loop-peer g l = record {
  can : (goal.iterator-loop-peer g).can_next l.peer-iterator;
  ends : (goal.iterator-loop-peer g).is_finite l.peer-iterator;
  least : min (all_held l.fn.self.hub.members + g.K.Keeper.holds l.fn.self.hub.keeper) (2 ^ 64 - 1) ≤ l.sum;
}
