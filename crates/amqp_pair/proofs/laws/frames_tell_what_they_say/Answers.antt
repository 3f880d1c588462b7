use Rattle.amqp_pair.proofs.Bodies.{tells_so}
use Rattle.amqp_pair.proofs.laws.frames_tell_what_they_say.Goals as goal

pub returns : goal.returns
returns c = tells_so c.said_is_read.ensures.read c.said_is_a_frame.ensures
