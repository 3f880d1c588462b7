use Rattle.std.proofs.Common.{drop, arith}
use Rattle.amqp_send.proofs.Opens.{lawful}
use Rattle.amqp_send.proofs.telling.told_in.Goals as goal

pub returns-in-Ok-clause-lawful : goal.returns-in-Ok-clause-lawful
returns-in-Ok-clause-lawful c =
    rw c.performative_told.ensures (lawful c.what_is_read_may_be_written.ensures.performatives c.args.body.now c.in-Ok.performative (drop c.in-Ok.field-0-1 c.args.body.now)
    (λ i. omega (arith, c.type_inv.body i)) c.in-Ok.ensures.found)
