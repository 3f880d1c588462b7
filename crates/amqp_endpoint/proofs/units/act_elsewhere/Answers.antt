use Rattle.std.proofs.Common.{refl, sym, ◌∙◌}
use Rattle.amqp_endpoint.specs.Connections.{slot_at}
use Rattle.amqp_endpoint.specs.Fields.{ForSession}
use Rattle.amqp_endpoint.proofs.Staying.{waiting_done}
use Rattle.amqp_endpoint.proofs.units.act_elsewhere.Goals as goal

pub returns-in-Waits : goal.returns-in-Waits
returns-in-Waits g c = λ f.
    waiting_done c.args.connection.now c.args.out.now c.args.channel (ForSession f) (slot_at c.args.connection.now c.args.channel) (sym c.place.ensures ∙ c.in-Waits.is) refl
