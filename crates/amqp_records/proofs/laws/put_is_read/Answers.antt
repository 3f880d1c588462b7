use Rattle.amqp_records.proofs.BlockFronts.{put_read}
use Rattle.amqp_records.proofs.laws.put_is_read.Goals as goal

pub returns : goal.returns
returns c = put_read
