use Rattle.std.proofs.Common.{refl}
use Rattle.amqp_perform.specs.Frames.{head_text, list_head, described_text, list_frame}
use Rattle.amqp_gateway.proofs.peer.close_frame.Goals as goal

pub returns : goal.returns
unfolding list_frame described_text list_head head_text
returns c = refl
