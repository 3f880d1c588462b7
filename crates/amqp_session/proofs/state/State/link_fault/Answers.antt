use Rattle.std.proofs.Common.{arith, refl}
use Rattle.amqp_session.proofs.States.{slot_is, slot_past}
use Rattle.amqp_session.proofs.state.State.link_fault.Goals as goal

pub returns-then-place-len-clause-drain : goal.returns-then-place-len-clause-drain
returns-then-place-len-clause-drain g c = rw (slot_past c.self.inside.terms c.self.inside.window c.self.inside.next_incoming_id c.self.inside.table.items c.args.self.now
    c.self.view_is c.self.invariant c.args.handle (omega arith)) refl

pub returns-then-place-len-clause-detach : goal.returns-then-place-len-clause-detach
returns-then-place-len-clause-detach g c = rw (slot_past c.self.inside.terms c.self.inside.window c.self.inside.next_incoming_id c.self.inside.table.items
    c.args.self.now c.self.view_is c.self.invariant c.args.handle (omega arith)) refl

pub returns-clause-drain : goal.returns-clause-drain
returns-clause-drain g c = rw (slot_is c.self.inside.terms c.self.inside.window c.self.inside.next_incoming_id c.self.inside.table.items c.args.self.now c.self.view_is
    c.self.invariant c.args.handle c.index.result.now c.index.ensures (omega arith)) c.link_fault.ensures

pub returns-clause-detach : goal.returns-clause-detach
returns-clause-detach g c = rw (slot_is c.self.inside.terms c.self.inside.window c.self.inside.next_incoming_id c.self.inside.table.items c.args.self.now c.self.view_is
    c.self.invariant c.args.handle c.index.result.now c.index.ensures (omega arith)) c.link_fault.ensures
