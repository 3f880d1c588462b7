use Rattle.std.proofs.Common.{◌≡◌, drop, map}
use Rattle.std.specs.Prelude.{find}
use Rattle.std.specs.List.{AllByRecursion}
use Rattle.slab.specs.Slab.{ContainsKey}
use Rattle.amqp_link.specs.Keeping.{at_key, keys_of, asks_of}
use Rattle.amqp_link.proofs.places.find.Given as goal

-- the keys that are left are keys, and the first of all that answers by yes is the first of these
abbrev pub invariant-loop-place : goal.invariant-loop-place
invariant-loop-place g l = record {
  keys : AllByRecursion (ContainsKey l.slab) (keys_of (drop l.place-index l.places));
  same : find (asks_of l.question) (map (at_key l.slab) (keys_of l.places)) ≡ find (asks_of l.question) (map (at_key l.slab) (keys_of (drop l.place-index l.places)));
}
