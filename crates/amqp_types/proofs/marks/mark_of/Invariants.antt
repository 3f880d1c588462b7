use Rattle.std.proofs.Common.{◌≡◌, drop}
use Rattle.amqp_types.specs.Marks.{marked}
use Rattle.amqp_types.proofs.marks.mark_of.Given as goal

abbrev pub invariant-loop-byte : goal.invariant-loop-byte
invariant-loop-byte l = record {
  rest : marked l.mark (drop l.byte-index l.bytes) ≡ marked 0 l.bytes;
}
