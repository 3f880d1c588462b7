-- Each function goes down a level of depth, or stays on its level and goes down a rank.
use Rattle.std.proofs.Common.{◌≡◌, ◌+◌, ◌-◌, ◌*◌, ◌≤◌, length, None}
use Rattle.amqp_types.specs.Reading.{after, trees_at, head_at, level_by, inside, item_by, value_by}
use Rattle.amqp_types.specs.Skipping.{constructor_after}
use Rattle.amqp_types.proofs.skipper.+walk.Given as goal

abbrev pub decreases-skip_array : goal.decreases-skip_array
decreases-skip_array l = 8 * l.depth + 5

abbrev pub decreases-skip_described : goal.decreases-skip_described
decreases-skip_described l = 8 * l.depth + 2

abbrev pub decreases-skip_head : goal.decreases-skip_head
decreases-skip_head l = 8 * l.depth + 4

abbrev pub decreases-skip_item : goal.decreases-skip_item
decreases-skip_item l = 8 * l.depth + 2

abbrev pub decreases-skip_items : goal.decreases-skip_items
decreases-skip_items l = 8 * l.depth + 4

abbrev pub decreases-skip_list : goal.decreases-skip_list
decreases-skip_list l = 8 * l.depth + 5

abbrev pub decreases-skip_map : goal.decreases-skip_map
decreases-skip_map l = 8 * l.depth + 5

abbrev pub decreases-skip_value : goal.decreases-skip_value
decreases-skip_value l = 8 * l.depth + 3

abbrev pub decreases-skip_values : goal.decreases-skip_values
decreases-skip_values l = 8 * l.depth + 4

abbrev pub invariant-skip_head-loop : goal.invariant-skip_head-loop
invariant-skip_head-loop l = record {
  same : constructor_after (head_at (l.end - l.counter) (level_by (inside l.depth)) l.w None l.rest) ≡ constructor_after (head_at (length l.bytes) (level_by (inside l.depth)) l.w None l.bytes);
  shorter : length l.rest ≤ length l.bytes;
  end_is : l.end ≡ length l.bytes;
}

abbrev pub invariant-skip_items-loop : goal.invariant-skip_items-loop
invariant-skip_items-loop l = record {
  same : after (trees_at (item_by (inside l.depth) l.constructor) (l.count - l.counter) l.w None l.rest) ≡ after (trees_at (item_by (inside l.depth) l.constructor) l.count l.w None l.bytes);
  shorter : length l.rest ≤ length l.bytes;
}

abbrev pub invariant-skip_values-loop : goal.invariant-skip_values-loop
invariant-skip_values-loop l = record {
  same : after (trees_at (λ within. value_by (inside l.depth) within 0) (l.count - l.counter) l.w None l.rest) ≡ after
      (trees_at (λ within. value_by (inside l.depth) within 0) l.count l.w None l.bytes);
  shorter : length l.rest ≤ length l.bytes;
}
