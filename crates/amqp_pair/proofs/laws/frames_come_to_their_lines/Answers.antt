use Rattle.amqp_pair.proofs.Accepting.{lines}
use Rattle.amqp_pair.proofs.laws.frames_come_to_their_lines.Goals as goal

pub returns : goal.returns
returns c = lines c.said_is_read.ensures.read c.said_is_a_frame.ensures
