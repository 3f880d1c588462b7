use Rattle.std.proofs.Common.{◌≡◌, ◌^◌, ◌-◌, ◌+◌, ◌≤◌, min}
use Rattle.std.specs.Prelude.{sum_by}
use Rattle.amqp_hub.specs.Members.{member_held}
use Rattle.amqp_hub.specs.Turns.{all_held}
use Rattle.amqp_hub.proofs.servers.Servers.held.Given as goal

-- the sum so far and what is left are all
abbrev pub invariant-loop-member : goal.invariant-loop-member
invariant-loop-member g l = record {
  can : (goal.iterator-loop-member g).can_next l.member-iterator;
  ends : (goal.iterator-loop-member g).is_finite l.member-iterator;
  fits : l.sum ≤ 2 ^ 64 - 1;
  all : min (l.sum + sum_by (λ e. member_held e.1) l.member-iterator) (2 ^ 64 - 1) ≡ min (all_held l.fn.self.members) (2 ^ 64 - 1);
}
