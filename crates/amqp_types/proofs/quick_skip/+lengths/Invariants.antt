-- Each function goes down a level of depth, or stays on its level and goes down a rank.
use Rattle.std.proofs.Common.{◌≡◌, ◌+◌, ◌-◌, ◌*◌, ◌≤◌, length, drop, None}
use Rattle.amqp_types.specs.declared.window.Window.{Window}
use Rattle.amqp_types.specs.Reading.{after, trees_at, inside, value_by}
use Rattle.amqp_types.proofs.quick_skip.+lengths.Given as goal

abbrev pub decreases-described_len : goal.decreases-described_len
decreases-described_len l = 8 * l.depth + 4

abbrev pub decreases-item_len : goal.decreases-item_len
decreases-item_len l = 8 * l.depth + 1

abbrev pub decreases-other_len : goal.decreases-other_len
decreases-other_len l = 8 * l.depth + 2

abbrev pub decreases-parts_len : goal.decreases-parts_len
decreases-parts_len l = 8 * l.depth + 5

abbrev pub decreases-value_len : goal.decreases-value_len
decreases-value_len l = 8 * l.depth + 3

abbrev pub decreases-values_len : goal.decreases-values_len
decreases-values_len l = 8 * l.depth + 4

abbrev pub invariant-values_len-loop : goal.invariant-values_len-loop
invariant-values_len-loop l = record {
  within : l.at ≤ length l.bytes;
  same : (w : Window) → after (trees_at (λ within. value_by (inside l.depth) within 0) (l.count - l.counter) w None (drop l.at l.bytes)) ≡ after
      (trees_at (λ within. value_by (inside l.depth) within 0) l.count w None l.bytes);
}
