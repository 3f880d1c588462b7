use Rattle.amqp_session.proofs.States.{widened}
use Rattle.amqp_session.proofs.state.State.widen.Goals as goal

pub returns-clause-new : goal.returns-clause-new
returns-clause-new g c = widened c.self.inside.terms c.self.inside.window c.self.inside.next_incoming_id c.self.inside.table.items c.args.self.now c.self.view_is
    c.self.invariant c.args.n c.self.ranges.1.1.1.0.1
