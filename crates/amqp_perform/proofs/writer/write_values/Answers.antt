use Rattle.std.proofs.Common.{arith}
use Rattle.amqp_perform.proofs.Writings.{values_more, values_end}
use Rattle.amqp_perform.proofs.writer.write_values.Goals as goal

pub loop-value-preserved : goal.loop-value-preserved
loop-value-preserved c =
    let i = c.loop-value.invariant in
    let more = values_more c.args.values.now c.loop-value.value-index _ c.args.at c.loop-value.end c.write-end.result c.args.out.now c.loop-value.out c.write-end.new.out
    (omega arith) i.place i.room c.requires c.write-end.ensures.behind c.write-end.ensures.written i.written in
    record { place = more.0; room = more.1; written = more.2 }

pub returns-clause-written : goal.returns-clause-written
returns-clause-written c =
    c.loop-value.invariant.written c.loop-value.out (values_end c.args.values.now c.loop-value.value-index c.loop-value.end c.loop-value.out (omega arith))
