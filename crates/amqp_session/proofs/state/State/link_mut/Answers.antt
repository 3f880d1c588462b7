use Rattle.std.proofs.Common.{arith, ap, sym, ◌∙◌, refl}
use mathlib.Core.Logic.{inl, inr}
use mathlib.Core.Path.{fun_ext}
use Rattle.amqp_session.specs.Links.{link_in}
use Rattle.amqp_session.specs.Sessions.{SessionState}
use Rattle.amqp_session.proofs.States.{slot_is, slot_past, relinked_at, flow_kept}
use Rattle.amqp_session.proofs.state.State.link_mut.Goals as goal

pub returns-then-place-len : goal.returns-then-place-len
returns-then-place-len g c = (
  ap inr c.self.view_is,
  record {
    writes_back = tt;
    value = sym (ap link_in (slot_past c.self.inside.terms c.self.inside.window c.self.inside.next_incoming_id c.self.inside.table.items c.args.self.now c.self.view_is c.self.invariant c.args.handle (omega arith)));
    number = omega (arith, c.self.ranges.1.1.1.0.1, ap (λ (t : SessionState). t.next_incoming_id) c.self.view_is);
  },
)

pub returns-in-Some : goal.returns-in-Some
returns-in-Some g c = (
  ap (λ f. inl (c.in-Some.link.ghost_name, f)) (fun_ext (λ w. relinked_at c.self.inside.terms c.self.inside.window c.self.inside.next_incoming_id c.self.inside.table.items c.args.self.now
      c.self.view_is c.self.invariant c.args.handle c.index_mut.result.now w c.index_mut.ensures.value (omega arith))),
  record {
    writes_back = tt;
    value = c.in-Some.ensures.value ∙ sym (ap link_in (slot_is c.self.inside.terms c.self.inside.window c.self.inside.next_incoming_id c.self.inside.table.items c.args.self.now c.self.view_is
        c.self.invariant c.args.handle c.index_mut.result.now c.index_mut.ensures.value (omega arith)));
    number = omega (arith, c.self.ranges.1.1.1.0.1, ap (λ (t : SessionState). t.next_incoming_id) c.self.view_is);
  },
)

pub returns-in-None : goal.returns-in-None
returns-in-None g c = (
  ap inr (flow_kept c.self.inside.terms c.self.inside.window c.self.inside.next_incoming_id c.self.inside.table.items c.args.self.now c.self.view_is c.self.invariant c.args.handle
      c.index_mut.result.now c.index_mut.result.now c.index_mut.ensures.value (omega arith) refl),
  record {
    writes_back = tt;
    value = c.in-None.ensures.value ∙ sym (ap link_in (slot_is c.self.inside.terms c.self.inside.window c.self.inside.next_incoming_id c.self.inside.table.items c.args.self.now c.self.view_is
        c.self.invariant c.args.handle c.index_mut.result.now c.index_mut.ensures.value (omega arith)));
    number = omega (arith, c.self.ranges.1.1.1.0.1, ap (λ (t : SessionState). t.next_incoming_id) c.self.view_is);
  },
)
