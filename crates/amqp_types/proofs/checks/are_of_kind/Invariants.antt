use Rattle.std.proofs.Common.{drop}
use Rattle.amqp_types.specs.Trees.{AreOfKind}
use Rattle.amqp_types.specs.Values.{views}
use Rattle.amqp_types.proofs.checks.are_of_kind.Given as goal

abbrev pub invariant-loop-item : goal.invariant-loop-item
invariant-loop-item l = record {
  all : AreOfKind l.kind (views (drop l.item-index l.item-items)) → AreOfKind l.kind (views l.item-items);
  rest : AreOfKind l.kind (views l.item-items) → AreOfKind l.kind (views (drop l.item-index l.item-items));
}
