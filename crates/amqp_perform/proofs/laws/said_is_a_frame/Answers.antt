use Rattle.std.proofs.Common.{◌++◌}
use Rattle.amqp_perform.specs.Frames.{list_frame}
use Rattle.amqp_perform.specs.Said.{said_text}
use Rattle.amqp_perform.proofs.Framed.{one_frame}
use Rattle.amqp_perform.proofs.laws.said_is_a_frame.Goals as goal

pub returns : goal.returns
unfolding list_frame
returns c = λ channel max s payload lt few most. one_frame max channel (said_text s ++ payload) lt few most
