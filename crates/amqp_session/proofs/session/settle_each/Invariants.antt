use Rattle.std.proofs.Common.{◌≡◌, ◌+◌, ◌-◌, ◌^◌, ◌<◌, ◌≤◌}
use Rattle.std.specs.Prelude.{sum_by}
use Rattle.amqp_session.specs.Faults.{slot_settled}
use Rattle.amqp_session.specs.Indexes.{disposed, IsKnown}
use Rattle.amqp_session.proofs.session.settle_each.Given as goal

-- to settle those that are left comes to the same as to settle all at the start
abbrev pub invariant-loop-id : goal.invariant-loop-id
invariant-loop-id g l = record {
  start : l.first ≤ l.from;
  order : l.from ≤ l.last;
  few : l.last < l.first + 2 ^ 31;
  small : l.last < 2 ^ 32;
  known : IsKnown l.index l.state;
  rest : disposed l.from l.last l.state ≡ disposed l.first l.last l.initial.state;
  count : l.count + sum_by (slot_settled l.from l.last) l.state.links ≡ sum_by (slot_settled l.first l.last) l.initial.state.links;
  most : l.count + l.first ≤ l.from;
}

abbrev pub decreases-loop-id : goal.decreases-loop-id
decreases-loop-id g l = 2 ^ 32 - l.from
