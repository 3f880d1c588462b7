use Rattle.std.proofs.Common.{◌≡◌, ◌<◌, ℕ, Some}
use Rattle.std.specs.Prelude.{slice_get}
use Rattle.amqp_endpoint.specs.Limits.{Limit}
use Rattle.amqp_endpoint.proofs.limits.is_repeated.Given as goal

-- none of the first ones has its prefix
abbrev pub invariant-loop-earlier : goal.invariant-loop-earlier
invariant-loop-earlier g l = (j : ℕ) (q r : Limit) → j < l.earlier → slice_get l.limits j ≡ Some q → slice_get l.limits l.row ≡ Some r → q.prefix ≡ r.prefix → ⊥
