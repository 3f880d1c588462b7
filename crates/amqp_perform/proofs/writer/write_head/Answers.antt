use Rattle.std.proofs.Common.{[], ◌∷◌}
use Rattle.byteorder.specs.Endian.{big_bytes}
use Rattle.amqp_perform.specs.Descriptors.{code_of}
use Rattle.amqp_perform.specs.Frames.{head_text}
use Rattle.amqp_perform.proofs.Writings.{four_writes}
use Rattle.amqp_perform.proofs.writer.write_head.Goals as goal

pub returns-clause-written : goal.returns-clause-written
unfolding head_text
returns-clause-written c =
    four_writes (big_bytes 4 c.args.len) (2 ∷ 0 ∷ []) (big_bytes 2 c.args.head.channel) (0 ∷ 0x53 ∷ code_of c.args.head.descriptor ∷ [])
    c.args.out.now c.put-at.new.out c.put-at-2.new.out c.put-at-3.new.out c.put.new.out
    c.requires
    (rw c.to_be_bytes.ensures at c.put-at.ensures.written)
    (rw (c.put-at.ensures.behind, c.to_be_bytes.ensures) at c.put-at-2.ensures.written)
    (rw (c.put-at-2.ensures.behind, c.put-at.ensures.behind, c.to_be_bytes.ensures, c.to_be_bytes-2.ensures) at c.put-at-3.ensures.written)
    (rw (c.put-at-3.ensures.behind, c.put-at-2.ensures.behind, c.put-at.ensures.behind, c.to_be_bytes.ensures, c.to_be_bytes-2.ensures, c.code.ensures) at c.put.ensures.written)
