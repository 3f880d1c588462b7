use Rattle.std.proofs.Common.{◌≡◌, ◌++◌, drop, map}
use Rattle.amqp_types.specs.Canonical.{canonicals, canonical_pairs, canonical_heads, parts, AllFit, PairsFit}
use Rattle.amqp_types.specs.Parts.{seen}
use Rattle.amqp_types.specs.Values.{views, pair_views}
use Rattle.amqp_types.proofs.encoder.+spell.Given as goal

abbrev pub invariant-spell_all-loop-item : goal.invariant-spell_all-loop-item
invariant-spell_all-loop-item l = record {
  joined : l.out.items ++ canonicals (views (drop l.item-index l.item-items)) ≡ canonicals (views l.item-items);
  all : AllFit (views (drop l.item-index l.item-items)) → AllFit (views l.item-items);
  rest : AllFit (views l.item-items) → AllFit (views (drop l.item-index l.item-items));
}

abbrev pub invariant-spell_heads-loop-descriptor : goal.invariant-spell_heads-loop-descriptor
invariant-spell_heads-loop-descriptor l = record {
  joined : l.out.items ++ canonical_heads (views (drop l.descriptor-index l.descriptor-items)) ≡ canonical_heads (views l.descriptor-items);
  all : AllFit (views (drop l.descriptor-index l.descriptor-items)) → AllFit (views l.descriptor-items);
  rest : AllFit (views l.descriptor-items) → AllFit (views (drop l.descriptor-index l.descriptor-items));
}

abbrev pub invariant-parts_of-loop-item : goal.invariant-parts_of-loop-item
invariant-parts_of-loop-item l = record {
  joined : map seen l.found.items ++ parts (views (drop l.item-index l.item-items)) ≡ parts (views l.item-items);
  all : AllFit (views (drop l.item-index l.item-items)) → AllFit (views l.item-items);
  rest : AllFit (views l.item-items) → AllFit (views (drop l.item-index l.item-items));
}

abbrev pub invariant-spell_pairs-loop-key : goal.invariant-spell_pairs-loop-key
invariant-spell_pairs-loop-key l = record {
  joined : l.out.items ++ canonical_pairs (pair_views (drop l.key-index l.key-items)) ≡ canonical_pairs (pair_views l.key-items);
  all : PairsFit (pair_views (drop l.key-index l.key-items)) → PairsFit (pair_views l.key-items);
  rest : PairsFit (pair_views l.key-items) → PairsFit (pair_views (drop l.key-index l.key-items));
}
