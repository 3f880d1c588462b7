use Rattle.std.proofs.Common.{◌∙◌, arith}
use Rattle.amqp_perform.proofs.Trims.{trimmed_last, trimmed_all}
use Rattle.amqp_perform.proofs.writer.used_count.Goals as goal

pub loop-count-preserved : goal.loop-count-preserved
loop-count-preserved c =
    let i = c.loop-count.invariant in record {
      bound = omega arith;
      used = i.used ∙ trimmed_last c.args.values.now c.loop-count.count _ c.is_null.result c.loop-count-test.true i.bound c.is_null.ensures c.if-is_null.true;
    }

pub returns-else-is_null-clause-used : goal.returns-else-is_null-clause-used
returns-else-is_null-clause-used c =
    let i = c.loop-count.invariant in
    i.used ∙ trimmed_all c.args.values.now c.loop-count.count _ c.is_null.result c.loop-count-test.true i.bound c.is_null.ensures c.if-is_null.false
