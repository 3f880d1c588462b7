use Rattle.std.proofs.Common.{◌≡◌, ℕ, List, drop}
use Rattle.amqp_types.specs.Decoding.{is_among}
use Rattle.amqp_types.specs.Lawful.{KeysApart}
use Rattle.amqp_types.specs.Values.{pair_views}
use Rattle.amqp_types.proofs.Equals.{keys_of}
use Rattle.amqp_types.proofs.ImageLaws.{AreSmall}
use Rattle.amqp_types.proofs.Keeps.{has_image}
use Rattle.amqp_types.proofs.checks.keys_apart.Given as goal

abbrev pub invariant-loop-i : goal.invariant-loop-i
invariant-loop-i l = record {
  apart : KeysApart (pair_views (drop l.i l.entries.items));
  small : AreSmall (keys_of (pair_views (drop l.i l.entries.items)));
  seen : (octets : List ℕ) → is_among octets l.keys ≡ has_image octets (keys_of (pair_views (drop l.i l.entries.items)));
}
