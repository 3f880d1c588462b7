use Rattle.std.proofs.Common.{arith, ap, length, ◌+◌}
use Rattle.amqp_session.proofs.state.KeptLink.link_mut.Goals as goal

pub invariant_of-self-lent : goal.invariant_of-self-lent
invariant_of-self-lent g c w = record {
  name = omega (arith, c.self.invariant.name, ap (λ r. length r.name.items) c.deref_mut.ensures.value);
  ends = omega (arith, c.self.invariant.ends, ap (λ r. length r.source.items + length r.target.items) c.deref_mut.ensures.value);
}
