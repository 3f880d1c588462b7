use Rattle.std.proofs.Common.{arith, refl, subst}
use Rattle.amqp_session.specs.Indexes.{IsOnceAt}
use Rattle.amqp_session.proofs.States.{slot_is, slot_past}
use Rattle.amqp_session.proofs.state.State.standing.Goals as goal

pub returns-then-place-len : goal.returns-then-place-len
returns-then-place-len g c = rw (slot_past c.self.inside.terms c.self.inside.window c.self.inside.next_incoming_id c.self.inside.table.items c.args.self.now c.self.view_is c.self.invariant c.args.handle (omega arith)) refl

pub standing-requires : goal.standing-requires
standing-requires g c = subst (IsOnceAt c.args.id) (slot_is c.self.inside.terms c.self.inside.window c.self.inside.next_incoming_id c.self.inside.table.items c.args.self.now c.self.view_is c.self.invariant c.args.handle c.index.result.now c.index.ensures (omega arith)) c.requires

pub returns : goal.returns
returns g c = rw (slot_is c.self.inside.terms c.self.inside.window c.self.inside.next_incoming_id c.self.inside.table.items c.args.self.now c.self.view_is c.self.invariant c.args.handle c.index.result.now c.index.ensures (omega arith)) c.standing.ensures
