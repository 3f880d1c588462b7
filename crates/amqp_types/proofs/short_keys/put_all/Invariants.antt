use Rattle.std.proofs.Common.{◌≡◌, ℕ, List, ◌++◌, drop, map}
use Rattle.amqp_types.specs.Decoding.{is_among}
use Rattle.amqp_types.specs.Images.{image}
use Rattle.amqp_types.specs.Trees.{Octets}
use Rattle.amqp_types.proofs.short_keys.put_all.Given as goal

abbrev pub invariant-loop-octets : goal.invariant-loop-octets
invariant-loop-octets l = record {
  same : (octets : List ℕ) → is_among octets (map (λ key. image (Octets l.kind key.now)) (drop l.octets-index l.keys) ++ l.seen)
      ≡ is_among octets (map (λ key. image (Octets l.kind key.now)) l.keys ++ l.initial.seen);
}
