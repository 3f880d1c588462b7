use Rattle.std.proofs.Common.{drop}
use Rattle.amqp_types.specs.Canonical.{AllRanged, PairsRanged}
use Rattle.amqp_types.specs.Values.{views, pair_views}
use Rattle.amqp_types.proofs.laws.+ranged.Given as goal

abbrev pub invariant-all_ranged-loop-item : goal.invariant-all_ranged-loop-item
invariant-all_ranged-loop-item l = AllRanged (views (drop l.item-index l.item-items)) → AllRanged (views l.item-items)

abbrev pub invariant-pairs_ranged-loop-key : goal.invariant-pairs_ranged-loop-key
invariant-pairs_ranged-loop-key l = PairsRanged (pair_views (drop l.key-index l.key-items)) → PairsRanged (pair_views l.key-items)
