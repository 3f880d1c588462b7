-- What is said in one frame.
use Rattle.amqp_perform.specs.declared.performative.Performative.TheVariants as performative
use Rattle.amqp_perform.specs.Receivers.{disposition_said, stated_said}
use Rattle.amqp_perform.specs.Said.{Said, said}
use Rattle.amqp_session.specs.Frames.{attaching, attach_said}
use Rattle.amqp_endpoint.specs.declared.output.Saying.{Saying}
use Rattle.amqp_endpoint.specs.declared.output.Saying.TheVariants as saying

abbrev pub said_of : Saying → Said
said_of (saying.Performative p) = said p.now
said_of (saying.Attached p bounds) = attach_said bounds.max_message_size (attaching p.now bounds)
said_of (saying.Flow p) = said (performative.Flow p)
said_of (saying.Credit f) = stated_said f
said_of (saying.Settled first last settled outcome) = disposition_said first last settled outcome
said_of (saying.Detach p) = said (performative.Detach p)
