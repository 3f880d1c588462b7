use Rattle.amqp_session.proofs.Lives.{part_goes_on, part_all_go_on, part_leaves, part_gone}
use Rattle.amqp_session.proofs.laws.parts_go_on.Goals as goal

pub returns : goal.returns
returns c = record { goes_on = part_goes_on; all_go_on = part_all_go_on; leaves = part_leaves; gone = part_gone }
