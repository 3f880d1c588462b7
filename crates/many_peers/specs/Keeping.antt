-- Of a keeper that keeps a digest alone nothing is known.
use Rattle.std.proofs.Common.{◌≡◌, ℕ, arith, Bool, true, false, List, [], Option, None, refl}
use Rattle.amqp_hub.specs.declared.keeper.Origin.{Origin}
use Rattle.amqp_hub.specs.declared.keeper.Progress.{Progress}
use Rattle.amqp_hub.specs.declared.keeper.Progress.TheVariants as progress
use Rattle.amqp_hub.specs.Keepers.{Entry, one_entry, IsMore, HasCome}

abbrev unknown : Option (List Entry)
unknown = None

pub nothing_known : true ≡ true → unknown ≡ unknown
nothing_known is = refl

pub accepts_more : (origin : Origin) (bytes : List ℕ) → IsMore (one_entry origin bytes) unknown unknown unknown unknown × (false ≡ false)
accepts_more origin bytes = (record { grown = refl; still = refl }, refl)

pub comes_so : (p : Progress) → p ≡ progress.Out → HasCome p unknown unknown unknown unknown true false
comes_so p is = record { same = refl; grows = ([], refl); out = λ _. refl; failed = (λ e. absurd (grind (arith, e, is)), λ e. absurd (grind (arith, e))) }
