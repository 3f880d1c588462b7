use Rattle.std.proofs.Common.{arith, ◌≡◌, ℕ, ◌-◌, sym, ap, subst, ◌∙◌, None, true, false}
use Rattle.std.specs.Prelude.{is_none}
use Rattle.amqp_link.specs.Links.{LinkState, OpenSet, sent_of, fault_of}
use Rattle.amqp_link.specs.Keeping.{link_of, IsLink}
use Rattle.amqp_link.proofs.Bounds.{bytes_fit, payload_short, stays, cost_of_head, cost_of_rest}
use Rattle.amqp_link.proofs.link.Link.transfer_judged.Goals as goal

pub apply-requires-clause-fits : goal.apply-requires-clause-fits
apply-requires-clause-fits g c =
    let may : fault_of (link_of c.self.inside.terms c.self.inside.credit c.self.inside.delivery_count c.self.inside.draining c.self.inside.deliveries)
    (sent_of c.args.transfer.now c.args.payload.now) ≡ None =
    ap (λ (s : LinkState). fault_of s (sent_of c.args.transfer.now c.args.payload.now)) c.self.view_is ∙ c.requires in
    λ whole. omega (
      arith,
      bytes_fit c.self.inside.terms c.self.inside.credit c.self.inside.deliveries c.self.invariant,
      c.self.invariant.bounded.most_bytes,
      payload_short (link_of c.self.inside.terms c.self.inside.credit c.self.inside.delivery_count c.self.inside.draining c.self.inside.deliveries)
          (sent_of c.args.transfer.now c.args.payload.now) may whole,
    )

pub invariant_of-self-then-begins : goal.invariant_of-self-then-begins
invariant_of-self-then-begins g c =
    let may : fault_of (link_of c.self.inside.terms c.self.inside.credit c.self.inside.delivery_count c.self.inside.draining c.self.inside.deliveries)
    (sent_of c.args.transfer.now c.args.payload.now) ≡ None =
    ap (λ (s : LinkState). fault_of s (sent_of c.args.transfer.now c.args.payload.now)) c.self.view_is ∙ c.requires in
    let head : is_none c.self.inside.deliveries.unfinished ≡ true = ap (λ (s : LinkState). is_none s.unfinished) c.self.view_is ∙ sym c.next_is_head-begins.ensures ∙ c.if-begins.true in
    subst (λ (o : OpenSet). IsLink c.self.inside.terms (c.self.inside.credit - 1) o) (sym c.in_ok-step.ensures.ok)
    (stays c.self.inside.terms c.self.inside.credit c.self.inside.delivery_count (c.self.inside.credit - 1) c.self.inside.draining c.self.inside.deliveries
    (sent_of c.args.transfer.now c.args.payload.now) c.self.invariant may
    (ap (λ (n : ℕ). c.self.inside.credit - n) (sym (cost_of_head c.self.inside.deliveries.unfinished head))))

pub invariant_of-self-else-begins : goal.invariant_of-self-else-begins
invariant_of-self-else-begins g c =
    let may : fault_of (link_of c.self.inside.terms c.self.inside.credit c.self.inside.delivery_count c.self.inside.draining c.self.inside.deliveries)
    (sent_of c.args.transfer.now c.args.payload.now) ≡ None =
    ap (λ (s : LinkState). fault_of s (sent_of c.args.transfer.now c.args.payload.now)) c.self.view_is ∙ c.requires in
    let rest : is_none c.self.inside.deliveries.unfinished ≡ false = ap (λ (s : LinkState). is_none s.unfinished) c.self.view_is ∙ sym c.next_is_head-begins.ensures ∙ c.if-begins.false in
    subst (λ (o : OpenSet). IsLink c.self.inside.terms c.self.inside.credit o) (sym c.in_ok-step.ensures.ok)
    (stays c.self.inside.terms c.self.inside.credit c.self.inside.delivery_count c.self.inside.credit c.self.inside.draining c.self.inside.deliveries
    (sent_of c.args.transfer.now c.args.payload.now) c.self.invariant may
    (omega (arith, cost_of_rest c.self.inside.deliveries.unfinished rest)))
