-- An outlet is a keeper.
use Rattle.std.proofs.Common.{◌≡◌, ℕ, arith, Bool, true, List, [], Option, None, refl, ap}
use Rattle.std.specs.Prelude.{◌↔◌}
use Rattle.amqp_endpoint.specs.Steps.{EndpointState}
use Rattle.amqp_hub.specs.declared.keeper.Origin.{Origin}
use Rattle.amqp_hub.specs.declared.keeper.Progress.{Progress}
use Rattle.amqp_hub.specs.declared.keeper.Progress.TheVariants as progress
use Rattle.amqp_hub.specs.Keepers.{Entry, one_entry, IsMore, HasCome}
use Rattle.amqp_gateway.specs.Outlets.{OutletState, is_settled, is_roomy, Accepts, MakesRoom, Settles, has_failed_by}

-- what a device was given is not known
abbrev unknown : Option (List Entry)
unknown = None

pub nothing_known : (s : OutletState) → is_settled s ≡ true → unknown ≡ unknown
nothing_known s is = refl

pub accepts_more : (s t : OutletState) (origin : Origin) (endpoint : EndpointState) (bytes : List ℕ) → Accepts s origin endpoint bytes t → IsMore (one_entry origin bytes) unknown unknown unknown unknown × (t.has_failed ≡ s.has_failed)
accepts_more s t origin endpoint bytes x = (record { grown = refl; still = refl }, ap (λ (o : OutletState). o.has_failed) x.rest)

failed_so : (p : Progress) (b : Bool) → b ≡ has_failed_by p → (p ≡ progress.Failed) ↔ (b ≡ true)
failed_so progress.Out b e = (λ is. absurd (grind (arith, is)), λ is. absurd (grind (arith, is, e)))
failed_so progress.Stuck b e = (λ is. absurd (grind (arith, is)), λ is. absurd (grind (arith, is, e)))
failed_so progress.Failed b e = (λ _. e, λ _. refl)

pub settles_so : (s t : OutletState) (p : Progress) → Settles s p t → HasCome p unknown unknown unknown unknown (is_settled t) t.has_failed
settles_so s t p x = record { same = refl; grows = ([], refl); out = out p x; failed = failed_so p t.has_failed x.failed }
  where
    out : (p : Progress) → Settles s p t → p ≡ progress.Out → is_settled t ≡ true
    out progress.Out x is = x.out
    out progress.Stuck x is = absurd (grind (arith, is))
    out progress.Failed x is = absurd (grind (arith, is))

pub makes_room_so : (s t : OutletState) (p : Progress) → MakesRoom s p t → HasCome p unknown unknown unknown unknown (is_roomy t) t.has_failed
makes_room_so s t p x = record { same = refl; grows = ([], refl); out = out p x; failed = failed_so p t.has_failed x.failed }
  where
    out : (p : Progress) → MakesRoom s p t → p ≡ progress.Out → is_roomy t ≡ true
    out progress.Out x is = x.out
    out progress.Stuck x is = absurd (grind (arith, is))
    out progress.Failed x is = absurd (grind (arith, is))
