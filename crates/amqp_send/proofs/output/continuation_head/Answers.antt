use Rattle.std.proofs.Common.{refl}
use Rattle.amqp_send.proofs.Heads.{later_is}
use Rattle.amqp_send.proofs.output.continuation_head.Goals as goal

pub returns : goal.returns
returns c = rw (c.copy_from_slice.ensures.after, c.to_be_bytes.ensures, later_is) refl
