use Rattle.amqp_session.proofs.States.{long_is}
use Rattle.amqp_session.proofs.state.State.is_long.Goals as goal

pub returns : goal.returns
returns g c =
    long_is c.self.inside.terms c.self.inside.window c.self.inside.next_incoming_id c.self.inside.table.items c.args.self.now c.self.view_is c.self.invariant
