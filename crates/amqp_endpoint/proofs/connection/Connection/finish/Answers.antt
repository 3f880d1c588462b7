use Rattle.std.proofs.Common.{arith, ◌∙◌, ap, refl}
use Rattle.std.proofs.lemmas.List.{with_items_is}
use Rattle.amqp_endpoint.specs.declared.phase.Phase.TheVariants as phase
use Rattle.amqp_endpoint.specs.Connections as event
use Rattle.amqp_endpoint.specs.Keeping.{connection_of}
use Rattle.amqp_endpoint.proofs.Tables.{freed}
use Rattle.amqp_endpoint.proofs.connection.Connection.finish.Goals as goal

pub returns : goal.returns
returns g c =
    ap (connection_of c.self.inside.config phase.Dead c.self.inside.failed c.self.inside.closed c.self.inside.peer) (with_items_is c.self.inside.places c.free_all.new.places
    (omega (arith, c.free_all.auto.places, c.deref_mut.ensures.len)))
    ∙ freed c.self.inside.config c.self.inside.phase c.self.inside.failed c.self.inside.closed c.self.inside.peer c.self.inside.places.items c.args.self.now c.self.view_is event.Finished _ c.free_all.new.places refl
    c.deref_mut.ensures.value c.free_all.ensures
