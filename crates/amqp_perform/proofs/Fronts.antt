-- The usual front of a performative: the descriptor's number in one byte, and a list whose size and count take one each.
use Rattle.std.proofs.Common.{◌≡◌, ℕ, List, ◌∷◌, Option, Some, None, refl, ap, ◌∙◌}
use Rattle.amqp_types.specs.declared.code.SizeWidth.TheVariants as size
use Rattle.amqp_perform.specs.declared.descriptor.Descriptor.{Descriptor}
use Rattle.amqp_perform.specs.Cells.{◌>>=◌}
use Rattle.amqp_perform.specs.Descriptors.{by_code}
use Rattle.amqp_perform.specs.BodyReading.{ListAt, short_at, list_at, described_at}
use Rattle.amqp_perform.proofs.Steps.{list_in}
use Rattle.amqp_perform.proofs.Lists.{list_is}
use Rattle.amqp_perform.proofs.Describing.{descriptor_is}

-- what describes a list, with the bytes behind it
abbrev before : List ℕ → Descriptor → Option (Descriptor × List ℕ)
before rest d = Some (d, rest)

-- with the list behind it
abbrev listed : Descriptor × List ℕ → Option (Descriptor × ListAt)
listed d = list_at d.1 >>= λ list. Some (d.0, list)

-- with a list of short size
abbrev short_list : List ℕ → Descriptor → Option (Descriptor × ListAt)
short_list rest d = list_in size.One (short_at rest) >>= λ list. Some (d, list)

-- [1.3, 1.6.22]
pub usual_front : (code : ℕ) (rest : List ℕ) → described_at (0 ∷ 0x53 ∷ code ∷ 0xc0 ∷ rest) ≡ (by_code code >>= short_list rest)
unfolding described_at
usual_front code rest = ap (λ (o : Option (Descriptor × List ℕ)). o >>= listed) (descriptor_is (0 ∷ 0x53 ∷ code ∷ 0xc0 ∷ rest)) ∙ behind (by_code code)
  where
    behind : (o : Option Descriptor) → ((o >>= before (0xc0 ∷ rest)) >>= listed) ≡ (o >>= short_list rest)
    behind None = refl
    behind (Some d) = ap (λ (l : Option ListAt). l >>= λ list. Some (d, list)) (list_is (0xc0 ∷ rest))
