use Rattle.amqp_session.proofs.States.{begins_is}
use Rattle.amqp_session.proofs.state.State.begin.Goals as goal

pub returns : goal.returns
returns g c =
    begins_is c.args.terms c.new.result.items c.new.ensures.items
