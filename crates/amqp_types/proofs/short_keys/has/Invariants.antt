use Rattle.std.proofs.Common.{◌≡◌, drop, map}
use Rattle.amqp_types.specs.declared.kind.Kind.{Kind}
use Rattle.amqp_types.specs.Decoding.{is_among}
use Rattle.amqp_types.specs.Images.{image}
use Rattle.amqp_types.specs.Trees.{Octets}
use Rattle.amqp_types.proofs.short_keys.has.Given as goal

abbrev pub invariant-loop-other : goal.invariant-loop-other
invariant-loop-other l = record {
  all : (kind : Kind) → is_among (image (Octets kind l.octets)) (map (λ key. image (Octets kind key.now)) (drop l.other-index l.keys))
      ≡ is_among (image (Octets kind l.octets)) (map (λ key. image (Octets kind key.now)) l.keys);
}
