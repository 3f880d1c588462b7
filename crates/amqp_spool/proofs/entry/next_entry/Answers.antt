use Rattle.amqp_spool.proofs.EntryFronts.{has_kind, of_kind_1, of_kind_2, of_no_kind}
use Rattle.amqp_spool.proofs.entry.next_entry.Goals as goal

pub returns-in_err-kind-clause-none : goal.returns-in_err-kind-clause-none
returns-in_err-kind-clause-none c = λ _ e rest x. has_kind c.args.bytes.now rest e x (c.byte_front.ensures.none c.in_err-kind.was)

pub returns-in_err-introduction-clause-none : goal.returns-in_err-introduction-clause-none
returns-in_err-introduction-clause-none c = λ _.
    let k = c.in_ok-kind in
    of_kind_1 c.args.bytes.now k.rest.now k.kind k.ensures.some c.if-kind-eq1.true (c.introduction_front.ensures.none c.in_err-introduction.was)

pub returns-in_err-record-clause-none : goal.returns-in_err-record-clause-none
returns-in_err-record-clause-none c = λ _.
    let k = c.in_ok-kind in
    of_kind_2 c.args.bytes.now k.rest.now k.kind k.ensures.some c.if-kind-eq2.true (c.record_front.ensures.none c.in_err-record.was)

pub returns-else-kind-eq2-clause-none : goal.returns-else-kind-eq2-clause-none
returns-else-kind-eq2-clause-none c = λ _.
    let k = c.in_ok-kind in
    of_no_kind c.args.bytes.now k.rest.now k.kind k.ensures.some c.if-kind-eq1.false c.if-kind-eq2.false
