use Rattle.std.proofs.Common.{List, ℕ, subst, arith}
use Rattle.amqp_perform.specs.Frames.{Writes}
use Rattle.amqp_perform.proofs.Framed.{items_first}
use Rattle.amqp_perform.proofs.writer.write_front.Goals as goal

pub returns : goal.returns
returns c = λ texts used old same many is len items.
    items_first c.args.channel c.args.descriptor texts used c.args.count c.args.end old c.args.out.now c.put.new.out same many c.requires.some (omega arith) is c.requires.most (omega arith) items
    (subst (λ (text : List ℕ). Writes 0 text c.args.out.now c.put.new.out) c.front.ensures c.put.ensures.written)
