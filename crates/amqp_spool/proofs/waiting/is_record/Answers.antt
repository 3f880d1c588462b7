use Rattle.std.proofs.Common.{[], sym, append-nil}
use Rattle.std.proofs.lemmas.Bool.{false≢true}
use Rattle.amqp_spool.proofs.Puttings.{whole_alone}
use Rattle.amqp_spool.proofs.waiting.is_record.Goals as goal

pub returns-in-Some : goal.returns-in-Some
returns-in-Some c =
    let x = c.in-Some in
    whole_alone c.args.bytes.now x.field-0-0.now x.rest.now c.is_empty.result x.ensures.is x.ensures.some c.is_empty.ensures

pub returns-in-None : goal.returns-in-None
returns-in-None c = (
  λ t. absurd (false≢true t),
  λ is. absurd (c.whole_front.ensures.none c.in-None.is c.args.bytes.now [] is (sym (append-nil c.args.bytes.now))),
)
