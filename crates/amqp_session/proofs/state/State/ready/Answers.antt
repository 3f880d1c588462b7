use Rattle.std.proofs.Common.{refl, ◌∙◌, ap, sym}
use Rattle.std.specs.Prelude.{sum_by}
use Rattle.amqp_session.specs.Sessions.{slot_ready}
use Rattle.amqp_session.proofs.States.{sum_is}
use Rattle.amqp_session.proofs.state.State.ready.Goals as goal

pub returns-clause-value : goal.returns-clause-value
returns-clause-value g c =
    c.ready.ensures.value ∙ ap (sum_by slot_ready) c.deref.ensures.value
    ∙ sym (sum_is c.self.inside.terms c.self.inside.window c.self.inside.next_incoming_id c.self.inside.table.items c.args.self.now c.self.view_is c.self.invariant slot_ready refl)
