use Rattle.std.proofs.Common.{◌∙◌, ap, sym}
use Rattle.std.specs.Prelude.{slice_set}
use Rattle.amqp_session.specs.declared.slot.Slot.TheVariants.{Live}
use Rattle.amqp_endpoint.specs.Connections as event
use Rattle.amqp_endpoint.proofs.Tables.{begins_at, after_is, channel_low}
use Rattle.amqp_endpoint.proofs.connection.Connection.begin.Goals as goal

pub returns-clause-new : goal.returns-clause-new
returns-clause-new g c =
    let low = channel_low c.self.inside.config c.self.inside.phase c.self.inside.failed c.self.inside.closed c.self.inside.peer c.self.inside.places.items c.args.self.now c.self.view_is c.self.invariant c.args.channel
    c.requires in
    after_is c.self.inside.config c.self.inside.phase c.self.inside.failed c.self.inside.closed c.self.inside.peer c.self.inside.places.items c.args.self.now c.self.view_is (event.Begun c.args.channel c.args.terms)
    (slice_set c.self.inside.places.items c.args.channel (Live c.in_ok-session.session))
    (begins_at c.self.inside.places.items c.args.channel c.args.terms low ∙ ap (λ s. slice_set c.self.inside.places.items c.args.channel (Live s)) (sym c.in_ok-session.ensures))
