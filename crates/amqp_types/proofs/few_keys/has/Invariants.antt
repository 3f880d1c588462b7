use Rattle.std.proofs.Common.{◌≡◌, drop, map}
use Rattle.amqp_types.specs.Decoding.{is_among}
use Rattle.amqp_types.specs.Keys.{key_image}
use Rattle.amqp_types.proofs.few_keys.has.Given as goal

abbrev pub invariant-loop-other : goal.invariant-loop-other
invariant-loop-other l = record {
  all : is_among (key_image l.key) (map key_image (drop l.other-index l.keys)) ≡ is_among (key_image l.key) (map key_image l.keys);
}
