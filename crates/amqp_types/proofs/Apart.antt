-- Canonical spellings tell values apart.
use Rattle.std.proofs.Common.{◌≡◌, ◌↔◌, ℕ, List, [], ◌++◌, ap}
use Rattle.amqp_types.specs.Canonical.{canonical, Fits, IsRanged}
use Rattle.amqp_types.specs.Trees.{Tree, IsLawful}
use Rattle.amqp_types.proofs.Again.{one_spelling}
use Rattle.amqp_types.proofs.Canons.{canonical_spells}

-- two values have one canonical spelling only where they are the same
pub canonical_same : (t u : Tree) → IsLawful t → IsRanged t → Fits t → IsLawful u → IsRanged u → Fits u → canonical t ≡ canonical u ↔ t ≡ u
canonical_same t u lt rt ft lu ru fu = (
  λ e. (one_spelling t u (canonical t) (canonical u) [] [] (canonical_spells t lt rt ft) (canonical_spells u lu ru fu) (ap (λ (a : List ℕ). a ++ []) e)).1,
  λ e. ap canonical e,
)
