-- Each function goes down a level of depth, or stays on its level and goes down a rank.
use Rattle.std.proofs.Common.{◌≡◌, ℕ, ◌+◌, ◌-◌, ◌*◌, ◌≤◌, List, length, Some}
use Rattle.amqp_types.specs.Decoding.{is_among}
use Rattle.amqp_types.specs.Reading.{trees_at, pairs_at, head_at, level_by, inside, item_by, value_by}
use Rattle.amqp_types.specs.Trees.{none}
use Rattle.amqp_types.specs.Values.{views, pair_views}
use Rattle.amqp_types.proofs.Keeps.{behind_values, behind_pairs, behind_descriptors, keys_before, has_image}
use Rattle.amqp_types.proofs.decoder.+read.Given as goal

abbrev pub decreases-read_array : goal.decreases-read_array
decreases-read_array l = 8 * l.depth + 6

abbrev pub decreases-read_coded : goal.decreases-read_coded
decreases-read_coded l = 8 * l.depth + 3

abbrev pub decreases-read_described : goal.decreases-read_described
decreases-read_described l = 8 * l.depth + 2

abbrev pub decreases-read_head : goal.decreases-read_head
decreases-read_head l = 8 * l.depth + 5

abbrev pub decreases-read_item : goal.decreases-read_item
decreases-read_item l = 8 * l.depth + 2

abbrev pub decreases-read_items : goal.decreases-read_items
decreases-read_items l = 8 * l.depth + 5

abbrev pub decreases-read_list : goal.decreases-read_list
decreases-read_list l = 8 * l.depth + 6

abbrev pub decreases-read_map : goal.decreases-read_map
decreases-read_map l = 8 * l.depth + 6

abbrev pub decreases-read_pairs : goal.decreases-read_pairs
decreases-read_pairs l = 8 * l.depth + 5

abbrev pub decreases-read_value : goal.decreases-read_value
decreases-read_value l = 8 * l.depth + 4

abbrev pub decreases-read_values : goal.decreases-read_values
decreases-read_values l = 8 * l.depth + 5

abbrev pub invariant-read_head-loop : goal.invariant-read_head-loop
invariant-read_head-loop l = record {
  same : behind_descriptors (views l.descriptors.items) (head_at (l.end - l.counter) (level_by (inside l.depth)) l.w (Some l.left) l.rest)
      ≡ head_at (length l.bytes) (level_by (inside l.depth)) l.w (Some l.nodes) l.bytes;
  shorter : length l.rest ≤ length l.bytes;
  end_is : l.end ≡ length l.bytes;
}

abbrev pub invariant-read_items-loop : goal.invariant-read_items-loop
invariant-read_items-loop l = record {
  same : behind_values (views l.items.items) (trees_at (item_by (inside l.depth) l.constructor) (l.count - l.counter) l.w (Some l.left) l.rest)
      ≡ trees_at (item_by (inside l.depth) l.constructor) l.count l.w (Some l.nodes) l.bytes;
  shorter : length l.rest ≤ length l.bytes;
}

abbrev pub invariant-read_pairs-loop : goal.invariant-read_pairs-loop
invariant-read_pairs-loop l = record {
  same : behind_pairs (pair_views l.entries.items) (pairs_at (level_by (inside l.depth)) (keys_before none l.entries.items) (l.count - l.counter) l.w (Some l.left) l.rest)
      ≡ pairs_at (level_by (inside l.depth)) none l.count l.w (Some l.nodes) l.bytes;
  shorter : length l.rest ≤ length l.bytes;
  seen : (octets : List ℕ) → is_among octets l.keys ≡ has_image octets (keys_before none l.entries.items);
}

abbrev pub invariant-read_values-loop : goal.invariant-read_values-loop
invariant-read_values-loop l = record {
  same : behind_values (views l.values.items) (trees_at (λ within. value_by (inside l.depth) within 0) (l.count - l.counter) l.w (Some l.left) l.rest)
      ≡ trees_at (λ within. value_by (inside l.depth) within 0) l.count l.w (Some l.nodes) l.bytes;
  shorter : length l.rest ≤ length l.bytes;
}
