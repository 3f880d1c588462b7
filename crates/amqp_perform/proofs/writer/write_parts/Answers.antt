use Rattle.std.proofs.Common.{arith}
use Rattle.amqp_perform.proofs.Framed.{list_len, frame_written}
use Rattle.amqp_perform.proofs.writer.write_parts.Goals as goal

pub write_list_head-at-requires-clause-room : goal.write_list_head-at-requires-clause-room
write_list_head-at-requires-clause-room c = omega (arith, list_len c.args.values.now c.args.content c.requires.few c.requires.content)

pub write_values-at-requires : goal.write_values-at-requires
write_values-at-requires c = omega (arith, list_len c.args.values.now c.args.content c.requires.few c.requires.content)

pub put-requires : goal.put-requires
put-requires c = omega (arith, list_len c.args.values.now c.args.content c.requires.few c.requires.content)

pub returns : goal.returns
returns c = λ texts same.
    frame_written c.args.head.channel c.args.head.descriptor texts c.args.values.now c.args.payload.now c.args.content c.args.len
    c.write_head-at.result c.write_list_head-at.result c.write_values-at.result c.put.result
    c.args.out.now c.write_head-at.new.out c.write_list_head-at.new.out c.write_values-at.new.out c.put.new.out
    same c.requires.few c.requires.content c.requires.len c.requires.room
    c.write_head-at.ensures.behind c.write_list_head-at.ensures.behind c.write_values-at.ensures.behind c.put.ensures.behind
    c.write_head-at.ensures.written c.write_list_head-at.ensures.written c.write_values-at.ensures.written c.put.ensures.written
