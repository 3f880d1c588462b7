use Rattle.std.proofs.Common.{arith, ap, ◌∙◌}
use Rattle.amqp_spool.specs.declared.batch_head.BatchHead.{BatchHead}
use Rattle.amqp_spool.proofs.Placing.{one_batch}
use Rattle.amqp_spool.proofs.scanning.next_batch.Goals as goal
use Rattle.amqp_spool.proofs.scanning.next_batch.Goals.{then-head-number-via-then-head-number, then-head-number-via-else-head-number+then-head-eq0, then-head-number-via-else-head-number+else-head-eq0+then-is_none}

pub returns-in_err-head-clause-none : goal.returns-in_err-head-clause-none
returns-in_err-head-clause-none c = λ _ b f x. c.read.ensures.none c.in_err-head.was b.head b.body x

pub returns-then-head-number-clause-none : goal.returns-then-head-number-clause-none
returns-then-head-number-clause-none c = λ _ b f x.
    let same = one_batch c.args.secret.now c.args.bytes.now c.in_ok-head.head b.head c.in_ok-head.body.now b.body (c.in_ok-head.ensures.some) x in
    let first = ap (λ (h : BatchHead). h.first) same in
    let count = ap (λ (h : BatchHead). h.count) same in
    elim c.then-head-number.branch [
      | then-head-number-via-then-head-number w ↦ w.if-head-number.true (first ∙ f.first)
      | then-head-number-via-else-head-number+then-head-eq0 w ↦ let a = w.if-head-eq0.true in absurd (omega (arith, a, count, f.some))
      | then-head-number-via-else-head-number+else-head-eq0+then-is_none w ↦ absurd (grind (arith, w.if-is_none.true, w.is_none.ensures, w.checked_add.ensures, f.within, count))
    ]
