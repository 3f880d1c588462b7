use Rattle.std.proofs.Common.{◌∙◌}
use Rattle.amqp_endpoint.proofs.Tables.{fails_at, ready_at}
use Rattle.amqp_endpoint.proofs.connection.Connection.fail_session.Goals as goal

pub returns-clause-new : goal.returns-clause-new
returns-clause-new g c =
    fails_at c.self.inside.config c.self.inside.phase c.self.inside.failed c.self.inside.closed c.self.inside.peer c.self.inside.places.items c.args.self.now c.self.view_is c.self.invariant c.args.channel c.requires

pub returns-clause-dropped : goal.returns-clause-dropped
returns-clause-dropped g c =
    c.place_ready-dropped.ensures.value
    ∙ ready_at c.self.inside.config c.self.inside.phase c.self.inside.failed c.self.inside.closed c.self.inside.peer c.self.inside.places.items c.args.self.now c.self.view_is c.self.invariant c.args.channel c.requires
    c.index.result.now c.index.ensures
