use Rattle.std.proofs.Common.{◌≡◌, ap, subst, Ok}
use Rattle.amqp_spool.specs.Alone.{ReadsAlone}
use Rattle.amqp_spool.specs.Batches.{Batch}
use Rattle.amqp_spool.specs.NamesRead.{names_of}
use Rattle.amqp_spool.proofs.Reading.{same_batch}
use Rattle.amqp_spool.proofs.alone.next_alone.Goals as goal

pub returns-else-branch-clause-none : goal.returns-else-branch-clause-none
returns-else-branch-clause-none c = λ _ b es f begins alone.
    let here : Batch = record { head = c.in-Some.head; body = c.in-Some.body.now } in
    let same : b ≡ here = same_batch c.args.secret.now c.args.bytes.now b here begins (c.in-Some.ensures.some).1 in
    c.in_ok-reads_alone.ensures.no (ap (λ x. Ok x) c.if-branch.false) es (subst (λ (k : Batch). ReadsAlone (names_of c.args.names.now) k.body k.head.count es) same alone)
