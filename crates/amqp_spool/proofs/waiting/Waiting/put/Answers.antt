use Rattle.std.proofs.Common.{arith, sym}
use Rattle.amqp_spool.specs.Entries.{Recorded}
use Rattle.amqp_spool.proofs.Puttings.{is_put}
use Rattle.amqp_spool.proofs.Tellings.{adds}
use Rattle.amqp_spool.proofs.waiting.Waiting.put.Goals as goal

pub returns-clause-waits : goal.returns-clause-waits
returns-clause-waits c =
    let r : Recorded = record { link = c.args.link; tag = c.args.tag.now; «record» = c.args.bytes.now } in
    let was = c.args.self.now in
    let now = c.append.new.self in
    let links = c.args.links.now in
    let put = is_put c.args.first c.args.next links was now r c.in-Some.known.now c.told_here-here.result.now c.told_again-again.result.now
    (sym c.in-Some.ensures) (omega (arith, c.if-tag.false)) (c.is_record.ensures.0 c.if-not-is_record.false) c.told_here-here.ensures c.told_again-again.ensures c.in_ok-append.ensures.appended in
    adds c.args.first c.args.next links c.mark.new.self r was now (omega arith) put c.mark.ensures
