use Rattle.std.proofs.Common.{arith}
use Rattle.amqp_session.specs.Frames.{flowing}
use Rattle.amqp_session.proofs.States.{flowed}
use Rattle.amqp_session.proofs.state.State.flow.Goals as goal

pub returns-in-None-clause-new : goal.returns-in-None-clause-new
returns-in-None-clause-new g c =
    flowed c.self.inside.terms c.self.inside.window c.self.inside.next_incoming_id c.self.inside.table.items c.args.self.now c.self.view_is c.self.invariant (flowing c.args.flow.now) c.in-None.is
    (omega arith)
