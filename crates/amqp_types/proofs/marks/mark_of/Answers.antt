use Rattle.std.proofs.Common.{ℕ, sym, ap, ◌∙◌, ◌*◌, ◌%◌, ◌^◌}
use Rattle.amqp_types.specs.Marks.{factor}
use Rattle.amqp_types.proofs.MarkLaws.{marked_next, marked_all}
use Rattle.amqp_types.proofs.marks.mark_of.Goals as goal

pub loop-byte-preserved : goal.loop-byte-preserved
loop-byte-preserved c = record {
  rest = rw c.from.ensures (sym (marked_next c.loop-byte.mark c.args.bytes.now c.loop-byte.byte-index 0 c.loop-byte-test.true) ∙ c.loop-byte.invariant.rest);
}

pub returns : goal.returns
returns c = ap (λ (n : ℕ). n * factor % 2 ^ 64) (sym (marked_all c.loop-byte.mark c.args.bytes.now c.loop-byte.byte-index c.loop-byte-test.false) ∙ c.loop-byte.invariant.rest)
