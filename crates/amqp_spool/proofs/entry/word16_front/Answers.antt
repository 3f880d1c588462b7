use Rattle.std.proofs.Common.{arith}
use Rattle.amqp_spool.proofs.EntryNumbers.{read16}
use Rattle.amqp_spool.proofs.entry.word16_front.Goals as goal

pub returns-clause-some : goal.returns-clause-some
returns-clause-some c =
    let parts = c.in_ok-word.ensures.cases in
    read16 c.args.bytes.now c.in_ok-word.word.now c.in_ok-word.rest.now c.from_be_bytes.result (λ i. omega (arith, c.type_inv.bytes i)) parts.0 parts.1 (omega (arith, parts.2)) c.from_be_bytes.ensures
