use Rattle.std.proofs.Common.{◌≡◌, ◌++◌, drop}
use Rattle.amqp_types.specs.Canonical.{AllRanged, PairsRanged}
use Rattle.amqp_types.specs.Images.{images, pair_images}
use Rattle.amqp_types.specs.Values.{views, pair_views}
use Rattle.amqp_types.proofs.image.+image.Given as goal

abbrev pub invariant-put_images-loop-item : goal.invariant-put_images-loop-item
invariant-put_images-loop-item l = record {
  joined : l.out.items ++ images (views (drop l.item-index l.item-items)) ≡ l.fn.out.items ++ images (views l.item-items);
  ranged : AllRanged (views (drop l.item-index l.item-items)) → AllRanged (views l.item-items);
}

abbrev pub invariant-put_pair_images-loop-key : goal.invariant-put_pair_images-loop-key
invariant-put_pair_images-loop-key l = record {
  joined : l.out.items ++ pair_images (pair_views (drop l.key-index l.key-items)) ≡ l.fn.out.items ++ pair_images (pair_views l.key-items);
  ranged : PairsRanged (pair_views (drop l.key-index l.key-items)) → PairsRanged (pair_views l.key-items);
}
