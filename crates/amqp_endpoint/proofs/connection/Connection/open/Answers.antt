use Rattle.amqp_endpoint.specs.Connections as event
use Rattle.amqp_endpoint.proofs.Tables.{none_after, after_is}
use Rattle.amqp_endpoint.proofs.connection.Connection.open.Goals as goal

pub returns : goal.returns
returns g c = after_is c.self.inside.config c.self.inside.phase c.self.inside.failed c.self.inside.closed c.self.inside.peer c.self.inside.places.items c.args.self.now c.self.view_is
    (event.Opened c.args.max_frame_size c.args.channel_max c.args.said) c.self.inside.places.items (none_after c.self.inside.places.items)
