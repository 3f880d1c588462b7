use Rattle.std.proofs.Common.{◌≡◌, ◌+◌, ◌-◌, ◌^◌, ◌<◌, ◌≤◌}
use Rattle.amqp_session.specs.Surveys.{untaken_in, told_in, to_settle_in, to_tell_in, in_all}
use Rattle.amqp_session.proofs.ranges.survey_each.Given as goal

-- those that were noted and those that are left are all
abbrev pub invariant-loop-id : goal.invariant-loop-id
invariant-loop-id g l = record {
  start : l.first ≤ l.from;
  order : l.from ≤ l.last;
  few : l.last < l.first + 2 ^ 31;
  small : l.last < 2 ^ 32;
  untaken : l.survey.untaken + untaken_in l.from l.last l.state.links ≡ untaken_in l.first l.last l.state.links;
  told : l.survey.told + told_in l.from l.last l.state.links ≡ told_in l.first l.last l.state.links;
  to_settle : l.survey.to_settle + to_settle_in l.from l.last l.state.links ≡ to_settle_in l.first l.last l.state.links;
  to_tell : l.survey.to_tell + to_tell_in l.from l.last l.state.links ≡ to_tell_in l.first l.last l.state.links;
  most : in_all l.survey + l.first ≤ l.from;
}

abbrev pub decreases-loop-id : goal.decreases-loop-id
decreases-loop-id g l = 2 ^ 32 - l.from
