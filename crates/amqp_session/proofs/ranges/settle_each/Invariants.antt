use Rattle.std.proofs.Common.{◌≡◌, ◌+◌, ◌-◌, ◌^◌, ◌<◌, ◌≤◌}
use Rattle.amqp_session.specs.Indexes.{answered, IsKnown}
use Rattle.amqp_session.specs.Surveys.{AreReady}
use Rattle.amqp_session.proofs.ranges.settle_each.Given as goal

-- to settle those that are left comes to the same as to settle all at the start
abbrev pub invariant-loop-id : goal.invariant-loop-id
invariant-loop-id g l = record {
  start : l.first ≤ l.from;
  order : l.from ≤ l.last;
  few : l.last < l.first + 2 ^ 31;
  small : l.last < 2 ^ 32;
  known : IsKnown l.index l.state;
  ready : AreReady l.from l.last l.state.links;
  rest : answered l.from l.last l.state ≡ answered l.first l.last l.initial.state;
}

abbrev pub decreases-loop-id : goal.decreases-loop-id
decreases-loop-id g l = 2 ^ 32 - l.from
