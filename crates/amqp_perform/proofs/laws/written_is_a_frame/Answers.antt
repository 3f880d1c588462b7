use Rattle.std.proofs.Common.{◌++◌}
use Rattle.amqp_perform.specs.Frames.{performative_text, list_frame}
use Rattle.amqp_perform.proofs.Framed.{one_frame}
use Rattle.amqp_perform.proofs.laws.written_is_a_frame.Goals as goal

pub returns : goal.returns
unfolding list_frame
returns c = λ channel max p payload lt few most. one_frame max channel (performative_text p ++ payload) lt few most
