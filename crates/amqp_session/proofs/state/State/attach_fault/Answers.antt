use Rattle.std.proofs.Common.{arith, refl, ◌∙◌, ap, sym, true, false}
use Rattle.amqp_session.specs.Frames.{attaching}
use Rattle.amqp_session.specs.Faults.{is_free}
use Rattle.amqp_session.specs.Slots.{at_place}
use Rattle.amqp_session.proofs.States.{place_is, attach_tested}
use Rattle.amqp_session.proofs.state.State.attach_fault.Goals as goal

pub returns-then-not-is_free : goal.returns-then-not-is_free
returns-then-not-is_free g c =
    sym (attach_tested c.args.self.now (attaching c.args.attach.now c.args.bounds) (at_place c.self.inside.table.items c.args.attach.now.handle) false _ (omega arith)
    (place_is c.self.inside.terms c.self.inside.window c.self.inside.next_incoming_id c.self.inside.table.items c.args.self.now c.self.view_is c.self.invariant c.args.attach.now.handle)
    (ap (λ ls. is_free (at_place ls c.args.attach.now.handle)) (sym c.deref.ensures.value) ∙ sym c.is_free.ensures ∙ c.if-not-is_free.true) refl)

pub returns-then-lacks_count : goal.returns-then-lacks_count
returns-then-lacks_count g c =
    sym (attach_tested c.args.self.now (attaching c.args.attach.now c.args.bounds) (at_place c.self.inside.table.items c.args.attach.now.handle) true true (omega arith)
    (place_is c.self.inside.terms c.self.inside.window c.self.inside.next_incoming_id c.self.inside.table.items c.args.self.now c.self.view_is c.self.invariant c.args.attach.now.handle)
    (ap (λ ls. is_free (at_place ls c.args.attach.now.handle)) (sym c.deref.ensures.value) ∙ sym c.is_free.ensures ∙ c.if-not-is_free.false)
    (sym c.lacks_count.ensures ∙ c.if-lacks_count.true))

pub returns-else-lacks_count : goal.returns-else-lacks_count
returns-else-lacks_count g c =
    sym (attach_tested c.args.self.now (attaching c.args.attach.now c.args.bounds) (at_place c.self.inside.table.items c.args.attach.now.handle) true false (omega arith)
    (place_is c.self.inside.terms c.self.inside.window c.self.inside.next_incoming_id c.self.inside.table.items c.args.self.now c.self.view_is c.self.invariant c.args.attach.now.handle)
    (ap (λ ls. is_free (at_place ls c.args.attach.now.handle)) (sym c.deref.ensures.value) ∙ sym c.is_free.ensures ∙ c.if-not-is_free.false)
    (sym c.lacks_count.ensures ∙ c.if-lacks_count.false))
