use Rattle.std.proofs.Common.{ap, ◌∙◌, Ok, List, ℕ}
use Rattle.amqp_types.specs.Skipping.{rest_of}
use Rattle.amqp_types.proofs.quick_skip.octets_len.Goals as goal

pub returns-clause-read : goal.returns-clause-read
returns-clause-read c = λ w. ap rest_of (c.in_ok-octets.ensures.read w) ∙ rw c.size_len.ensures (ap (λ (r : List ℕ). Ok r) c.in_ok-octets.ensures.behind)
