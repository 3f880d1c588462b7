use Rattle.std.proofs.Common.{◌≡◌, ◌⊎◌, inl, inr, None, sym, ap, subst, ◌∙◌}
use Rattle.amqp_link.specs.declared.settlement.Standing.{Standing}
use Rattle.amqp_link.specs.declared.settlement.Standing.TheVariants.{Absent, Untaken, Told, Awaiting}
use Rattle.amqp_link.specs.Links.{LinkState, OpenSet, open_set, settle_fault, standing_of, IsAwaiting}
use Rattle.amqp_link.specs.Keeping.{IsLink}
use Rattle.amqp_link.proofs.Bounds.{stays_for_receiver}
use Rattle.amqp_link.proofs.link.Link.settle_at.Goals as goal

awaits : (s : Standing) → IsAwaiting s ⊎ ¬ (IsAwaiting s)
awaits Absent = inr (λ none. none)
awaits Untaken = inr (λ none. none)
awaits Told = inr (λ none. none)
awaits (Awaiting mode) = inl tt

pub invariant_of-self : goal.invariant_of-self
invariant_of-self g c =
    let is = ap (λ (s : LinkState). standing_of c.args.id (open_set s)) c.self.view_is in
    let may : IsAwaiting c.settle_at.result → settle_fault c.args.id c.args.id c.self.inside.deliveries ≡ None =
    λ a. ap (λ (s : LinkState). settle_fault c.args.id c.args.id (open_set s)) c.self.view_is
    ∙ c.requires.faultless (subst (λ (s : Standing). IsAwaiting s) (c.settle_at.ensures.standing ∙ is) a) in
    elim (awaits c.settle_at.result) [
      | inl a ↦ subst (λ (o : OpenSet). IsLink c.self.inside.terms c.self.inside.credit o) (sym (c.settle_at.ensures.new a))
          (stays_for_receiver c.self.inside.terms c.self.inside.credit c.self.inside.delivery_count c.self.inside.draining c.self.inside.deliveries c.args.id c.args.id c.self.invariant (may a))
      | inr n ↦ subst (λ (o : OpenSet). IsLink c.self.inside.terms c.self.inside.credit o) (sym (c.settle_at.ensures.same n)) c.self.invariant
    ]
