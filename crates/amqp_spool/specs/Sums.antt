-- The sum by which bytes of a segment are known again.
use Rattle.std.specs.Prelude.{ℕ, List, ◌++◌}
use Rattle.std.specs.Hash.DefaultHasher as sip

-- SipHash-1-3 of a segment's secret and the bytes
abbrev pub sum_of : List ℕ → List ℕ → ℕ
sum_of secret bytes = sip.finish (sip.write sip.initial (secret ++ bytes))
