use Rattle.std.proofs.Common.{◌≡◌, ℕ, List, Some, None, sym, ap, ◌∙◌}
use Rattle.amqp_session.specs.declared.slot.Slot.{Slot}
use Rattle.amqp_session.specs.Sessions.{LiveLink, slot_at}
use Rattle.amqp_session.specs.Slots.{at_place}
use Rattle.amqp_session.proofs.Lackings.{first_moved}
use Rattle.amqp_session.proofs.States.{slots_are}
use Rattle.amqp_session.proofs.state.State.first_lacking.Goals as goal

pub returns-in-Some : goal.returns-in-Some
returns-in-Some g c =
    let same : (h : ℕ) → slot_at c.args.self.now h ≡ at_place c.deref.result.now h =
    λ h. slots_are c.self.inside.terms c.self.inside.window c.self.inside.next_incoming_id c.self.inside.table.items c.args.self.now c.self.view_is c.self.invariant h
    ∙ ap (λ (slots : List (Slot LiveLink)). at_place slots h) (sym c.deref.ensures.value) in
    first_moved c.args.credit c.args.from _ _ same (Some c.in-Some.place) c.in-Some.ensures.first

pub returns-in-None : goal.returns-in-None
returns-in-None g c =
    let same : (h : ℕ) → slot_at c.args.self.now h ≡ at_place c.deref.result.now h =
    λ h. slots_are c.self.inside.terms c.self.inside.window c.self.inside.next_incoming_id c.self.inside.table.items c.args.self.now c.self.view_is c.self.invariant h
    ∙ ap (λ (slots : List (Slot LiveLink)). at_place slots h) (sym c.deref.ensures.value) in
    first_moved c.args.credit c.args.from _ _ same None c.in-None.ensures.first
