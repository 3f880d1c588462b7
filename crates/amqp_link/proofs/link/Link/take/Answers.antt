use Rattle.std.proofs.Common.{◌≡◌, ℕ, Option, Some, None, refl, sym, subst}
use Rattle.std.specs.Prelude.{slice_get, IfSome, IfNone, IsSomeAnd, Bool}
use Rattle.amqp_link.specs.declared.link.Taken.{Taken}
use Rattle.amqp_link.specs.declared.terms.Terms.{Terms}
use Rattle.amqp_link.specs.Links.{Delivery, OpenSet}
use Rattle.amqp_link.specs.HandedUps.{IsHandedUp}
use Rattle.amqp_link.specs.Keeping.{IsLink, taken_from}
use Rattle.amqp_link.proofs.Bounds.{stays_for_taker}
use Rattle.amqp_link.proofs.link.Link.take.Goals as goal

stays : {A : Type 0} (terms : Terms) (credit count : ℕ) (draining : Bool) (old new : OpenSet) (r : Option (Taken A)) → IsLink terms credit old → IfNone r ((slice_get old.ready 0 ≡ None) × (new ≡ old)) →
    IfSome r (λ taken. IsSomeAnd (slice_get old.ready 0) (λ d. IsHandedUp taken d × (new ≡ taken_from d old))) → IsLink terms credit new
stays {A} terms credit count draining old new None link none some = subst (λ (o : OpenSet). IsLink terms credit o) (sym none.1) link
stays {A} terms credit count draining old new (Some taken) link none some = by (slice_get old.ready 0) refl some
  where
    by : (first : Option Delivery) → slice_get old.ready 0 ≡ first → IsSomeAnd first (λ d. IsHandedUp taken d × (new ≡ taken_from d old)) → IsLink terms credit new
    by None is none = absurd none
    by (Some d) is one = subst (λ (o : OpenSet). IsLink terms credit o) (sym one.1) (stays_for_taker terms credit count draining old d link is)

pub invariant_of-self : goal.invariant_of-self
invariant_of-self g c =
    stays c.self.inside.terms c.self.inside.credit c.self.inside.delivery_count c.self.inside.draining c.self.inside.deliveries c.take.new.self c.take.result c.self.invariant
    c.take.ensures.none c.take.ensures.some
