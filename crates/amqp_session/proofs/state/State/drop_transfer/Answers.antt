use Rattle.std.proofs.Common.{refl, ◌∙◌, ap, sym}
use Rattle.amqp_session.specs.Faults.{is_free}
use Rattle.amqp_session.specs.Slots.{at_place}
use Rattle.amqp_session.proofs.States.{place_is}
use Rattle.amqp_session.proofs.state.State.drop_transfer.Goals as goal

pub returns-then-is_free-clause-refused : goal.returns-then-is_free-clause-refused
returns-then-is_free-clause-refused g c = (
  refl,
  ap is_free (place_is c.self.inside.terms c.self.inside.window c.self.inside.next_incoming_id c.self.inside.table.items c.args.self.now c.self.view_is c.self.invariant c.args.handle)
      ∙ ap (λ ls. is_free (at_place ls c.args.handle)) (sym c.deref.ensures.value) ∙ sym c.is_free.ensures ∙ c.if-is_free.true,
)

pub returns-clause-waits : goal.returns-clause-waits
returns-clause-waits g c =
    ap is_free (place_is c.self.inside.terms c.self.inside.window c.self.inside.next_incoming_id c.self.inside.table.items c.args.self.now c.self.view_is c.self.invariant c.args.handle)
    ∙ ap (λ ls. is_free (at_place ls c.args.handle)) (sym c.deref.ensures.value) ∙ sym c.is_free.ensures ∙ c.if-is_free.false
