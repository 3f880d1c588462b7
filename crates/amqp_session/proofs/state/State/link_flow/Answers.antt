use Rattle.std.proofs.Common.{arith, [], ◌∷◌, refl, sym, ap, ◌∙◌}
use Rattle.amqp_perform.specs.Said.{Said}
use Rattle.amqp_session.proofs.States.{slot_is, slot_past, flow_is, no_flow}
use Rattle.amqp_session.proofs.state.State.link_flow.Goals as goal

pub returns-then-place-len : goal.returns-then-place-len
returns-then-place-len g c =
    rw (slot_past c.self.inside.terms c.self.inside.window c.self.inside.next_incoming_id c.self.inside.table.items c.args.self.now c.self.view_is c.self.invariant c.args.handle (omega arith)) refl

pub returns-in-Some : goal.returns-in-Some
returns-in-Some g c =
    ap (λ (x : Said). x ∷ []) c.flow.ensures
    ∙ sym (flow_is c.args.self.now c.args.handle c.index.result.now c.in-Some.stated _ (slot_is c.self.inside.terms c.self.inside.window c.self.inside.next_incoming_id c.self.inside.table.items
    c.args.self.now c.self.view_is c.self.invariant c.args.handle c.index.result.now c.index.ensures (omega arith)) c.in-Some.ensures.some c.flow_stating.ensures)

pub returns-in-None : goal.returns-in-None
returns-in-None g c =
    sym (no_flow c.args.self.now c.args.handle c.index.result.now (slot_is c.self.inside.terms c.self.inside.window c.self.inside.next_incoming_id c.self.inside.table.items c.args.self.now
    c.self.view_is c.self.invariant c.args.handle c.index.result.now c.index.ensures (omega arith)) c.in-None.ensures.none)
