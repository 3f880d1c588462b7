use Rattle.std.proofs.Common.{◌≡◌, ℕ, List, ◌++◌, drop, map}
use Rattle.amqp_types.specs.Decoding.{is_among}
use Rattle.amqp_types.specs.Keys.{key_image}
use Rattle.amqp_types.proofs.keys.Keys.insert_all.Given as goal

abbrev pub invariant-loop-key : goal.invariant-loop-key
invariant-loop-key l = record {
  same : (octets : List ℕ) → is_among octets (map key_image (drop l.key-index l.keys) ++ l.self) ≡ is_among octets (map key_image l.keys ++ l.initial.self);
}
