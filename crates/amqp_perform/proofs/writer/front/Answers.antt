use Rattle.std.proofs.Common.{arith}
use Rattle.amqp_perform.proofs.Framed.{front_is}
use Rattle.amqp_perform.proofs.writer.front.Goals as goal

pub returns : goal.returns
returns c =
    rw (c.to_be_bytes.ensures, c.to_be_bytes-2.ensures, c.code-code.ensures)
    (front_is c.args.end c.args.channel c.args.count c.args.descriptor c.requires.some (omega arith) c.requires.least c.requires.most)
