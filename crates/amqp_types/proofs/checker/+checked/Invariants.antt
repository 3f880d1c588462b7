-- Each function goes down a level of depth, or stays on its level and goes down a rank.
use Rattle.std.proofs.Common.{◌≡◌, ◌+◌, ◌-◌, ◌*◌, ◌≤◌, length, Some}
use Rattle.amqp_types.specs.Keys.{AreImagesOf}
use Rattle.amqp_types.specs.Reading.{trees_at, pairs_at, head_at, level_by, inside, item_by, value_by}
use Rattle.amqp_types.specs.Skipping.{passed, constructor_passed}
use Rattle.amqp_types.specs.Trees.{Trees, none}
use Rattle.amqp_types.proofs.checker.+checked.Given as goal

abbrev pub decreases-check_array : goal.decreases-check_array
decreases-check_array l = 8 * l.depth + 6

abbrev pub decreases-check_coded : goal.decreases-check_coded
decreases-check_coded l = 8 * l.depth + 3

abbrev pub decreases-check_described : goal.decreases-check_described
decreases-check_described l = 8 * l.depth + 2

abbrev pub decreases-check_head : goal.decreases-check_head
decreases-check_head l = 8 * l.depth + 5

abbrev pub decreases-check_item : goal.decreases-check_item
decreases-check_item l = 8 * l.depth + 2

abbrev pub decreases-check_items : goal.decreases-check_items
decreases-check_items l = 8 * l.depth + 5

abbrev pub decreases-check_list : goal.decreases-check_list
decreases-check_list l = 8 * l.depth + 6

abbrev pub decreases-check_map : goal.decreases-check_map
decreases-check_map l = 8 * l.depth + 7

abbrev pub decreases-check_pairs : goal.decreases-check_pairs
decreases-check_pairs l = 8 * l.depth + 6

abbrev pub decreases-check_value : goal.decreases-check_value
decreases-check_value l = 8 * l.depth + 4

abbrev pub decreases-check_values : goal.decreases-check_values
decreases-check_values l = 8 * l.depth + 5

abbrev pub invariant-check_head-loop : goal.invariant-check_head-loop
invariant-check_head-loop l = record {
  same : constructor_passed (head_at (l.end - l.counter) (level_by (inside l.depth)) l.w (Some l.left) l.rest)
      ≡ constructor_passed (head_at (length l.bytes) (level_by (inside l.depth)) l.w (Some l.nodes) l.bytes);
  shorter : length l.rest ≤ length l.bytes;
  end_is : l.end ≡ length l.bytes;
}

abbrev pub invariant-check_items-loop : goal.invariant-check_items-loop
invariant-check_items-loop l = record {
  same : passed (trees_at (item_by (inside l.depth) l.constructor) (l.count - l.counter) l.w (Some l.left) l.rest)
      ≡ passed (trees_at (item_by (inside l.depth) l.constructor) l.count l.w (Some l.nodes) l.bytes);
  shorter : length l.rest ≤ length l.bytes;
}

abbrev pub decreases-check_more_pairs : goal.decreases-check_more_pairs
decreases-check_more_pairs l = 8 * l.depth + 5

-- the keys seen are some whose images are kept
abbrev pub invariant-check_pairs-loop-i : goal.invariant-check_pairs-loop-i
invariant-check_pairs-loop-i l = record {
  seen : (keys : Trees) × AreImagesOf l.seen keys
      × (passed (pairs_at (level_by (inside l.depth)) keys (l.count - l.i) l.w (Some l.left) l.rest) ≡ passed (pairs_at (level_by (inside l.depth)) none l.count l.w (Some l.nodes) l.bytes));
  shorter : length l.rest ≤ length l.bytes;
}

abbrev pub invariant-check_values-loop : goal.invariant-check_values-loop
invariant-check_values-loop l = record {
  same : passed (trees_at (λ within. value_by (inside l.depth) within 0) (l.count - l.counter) l.w (Some l.left) l.rest)
      ≡ passed (trees_at (λ within. value_by (inside l.depth) within 0) l.count l.w (Some l.nodes) l.bytes);
  shorter : length l.rest ≤ length l.bytes;
}

abbrev pub invariant-check_more_pairs-loop : goal.invariant-check_more_pairs-loop
invariant-check_more_pairs-loop l = record {
  seen : (seen : Trees) → AreImagesOf l.before seen → (keys : Trees) × AreImagesOf l.seen keys
      × (passed (pairs_at (level_by (inside l.depth)) keys (l.count - l.counter) l.w (Some l.left) l.rest) ≡ passed (pairs_at (level_by (inside l.depth)) seen l.count l.w (Some l.nodes) l.bytes));
  shorter : length l.rest ≤ length l.bytes;
}
