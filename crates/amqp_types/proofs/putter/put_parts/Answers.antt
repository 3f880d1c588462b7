use Rattle.std.proofs.Common.{arith}
use Rattle.amqp_types.proofs.Puts.{parts_put}
use Rattle.amqp_types.proofs.putter.put_parts.Goals as goal

pub returns-clause-some : goal.returns-clause-some
returns-clause-some c =
    parts_put c.args.code c.args.size.now c.args.bytes.now c.args.out.now c.write_at.new.out c.write_at-2.new.out c.write_at-3.new.out (omega arith)
    c.write_at.ensures.written c.write_at.ensures.behind c.write_at-2.ensures.written c.write_at-2.ensures.behind c.write_at-3.ensures.written c.write_at-3.ensures.behind
