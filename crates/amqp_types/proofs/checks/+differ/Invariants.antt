use Rattle.std.proofs.Common.{drop}
use Rattle.amqp_types.specs.Lawful.{AllDiffer, PairsDiffer}
use Rattle.amqp_types.specs.Values.{views, pair_views}
use Rattle.amqp_types.proofs.checks.+differ.Given as goal

abbrev pub invariant-all_differ-loop-item : goal.invariant-all_differ-loop-item
invariant-all_differ-loop-item l = record {
  all : AllDiffer (views (drop l.item-index l.item-items)) → AllDiffer (views l.item-items);
  rest : AllDiffer (views l.item-items) → AllDiffer (views (drop l.item-index l.item-items));
}

abbrev pub invariant-pairs_differ-loop-key : goal.invariant-pairs_differ-loop-key
invariant-pairs_differ-loop-key l = record {
  all : PairsDiffer (pair_views (drop l.key-index l.key-items)) → PairsDiffer (pair_views l.key-items);
  rest : PairsDiffer (pair_views l.key-items) → PairsDiffer (pair_views (drop l.key-index l.key-items));
}
