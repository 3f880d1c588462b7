use Rattle.std.proofs.Common.{drop}
use Rattle.amqp_types.specs.Lawful.{AllAgree, PairsAgree}
use Rattle.amqp_types.specs.Values.{views, pair_views}
use Rattle.amqp_types.proofs.checks.+agree.Given as goal

abbrev pub invariant-all_agree-loop-item : goal.invariant-all_agree-loop-item
invariant-all_agree-loop-item l = record {
  all : AllAgree (views (drop l.item-index l.item-items)) → AllAgree (views l.item-items);
  rest : AllAgree (views l.item-items) → AllAgree (views (drop l.item-index l.item-items));
}

abbrev pub invariant-pairs_agree-loop-key : goal.invariant-pairs_agree-loop-key
invariant-pairs_agree-loop-key l = record {
  all : PairsAgree (pair_views (drop l.key-index l.key-items)) → PairsAgree (pair_views l.key-items);
  rest : PairsAgree (pair_views l.key-items) → PairsAgree (pair_views (drop l.key-index l.key-items));
}
