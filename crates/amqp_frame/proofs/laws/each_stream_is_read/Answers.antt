use Rattle.amqp_frame.proofs.Readings.{each_is_read}
use Rattle.amqp_frame.proofs.laws.each_stream_is_read.Goals as goal

pub returns : goal.returns
returns c = each_is_read
