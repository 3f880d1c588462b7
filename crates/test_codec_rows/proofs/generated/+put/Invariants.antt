-- Each function goes down a level of depth, or stays on its level and goes down a rank.
use Rattle.std.proofs.Common.{◌+◌, ◌*◌}
use Rattle.test_codec_rows.proofs.generated.+put.Given as goal

abbrev pub decreases-put_data : goal.decreases-put_data
decreases-put_data l = 8 * l.depth + 1

abbrev pub decreases-put_entries : goal.decreases-put_entries
decreases-put_entries l = 8 * l.depth + 5

abbrev pub decreases-put_holder : goal.decreases-put_holder
decreases-put_holder l = 8 * l.depth + 6

abbrev pub decreases-put_items : goal.decreases-put_items
decreases-put_items l = 8 * l.depth + 5

abbrev pub decreases-put_value : goal.decreases-put_value
decreases-put_value l = 8 * l.depth + 2

abbrev pub decreases-put_values : goal.decreases-put_values
decreases-put_values l = 8 * l.depth + 5
