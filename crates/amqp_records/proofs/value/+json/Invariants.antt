-- Each function goes down a level of depth, or stays on its level and goes down a rank.
use Rattle.std.proofs.Common.{◌+◌, ◌*◌}
use Rattle.amqp_records.proofs.value.+json.Given as goal

abbrev pub decreases-json_of : goal.decreases-json_of
decreases-json_of l = 4 * l.depth

abbrev pub decreases-list_of : goal.decreases-list_of
decreases-list_of l = 4 * l.depth + 1

abbrev pub decreases-map_of : goal.decreases-map_of
decreases-map_of l = 4 * l.depth + 2

abbrev pub decreases-pairs_of : goal.decreases-pairs_of
decreases-pairs_of l = 4 * l.depth + 1

abbrev pub decreases-array_of : goal.decreases-array_of
decreases-array_of l = 4 * l.depth + 2
