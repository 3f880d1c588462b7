use Rattle.amqp_spool.proofs.EntryTexts.{from_tag, from_record, whole_in}
use Rattle.amqp_spool.proofs.EntryFronts.{behind32, behind_short, recording, record_from}
use Rattle.amqp_spool.proofs.entry.record_front.Goals as goal

pub returns-in_err-link-clause-none : goal.returns-in_err-link-clause-none
returns-in_err-link-clause-none c = λ _ r rest x. c.word32_front.ensures.none c.in_err-link.was r.link (from_tag r rest) (recording c.args.bytes.now rest r x)

pub returns-in_err-tag-clause-none : goal.returns-in_err-tag-clause-none
returns-in_err-tag-clause-none c = λ _ r rest x.
    let link = c.in_ok-link in
    let at_tag = behind32 c.args.bytes.now link.rest.now (from_tag r rest) link.link r.link link.ensures.within x.is.link link.ensures.some (recording c.args.bytes.now rest r x) in
    c.short_front.ensures.none c.in_err-tag.was r.tag (from_record r rest) x.is.tag at_tag

pub returns-in_err-record-clause-none : goal.returns-in_err-record-clause-none
returns-in_err-record-clause-none c = λ _ r rest x.
    let link = c.in_ok-link in
    let tag = c.in_ok-tag in
    let at_tag = behind32 c.args.bytes.now link.rest.now (from_tag r rest) link.link r.link link.ensures.within x.is.link link.ensures.some (recording c.args.bytes.now rest r x) in
    let at_record = behind_short link.rest.now tag.rest.now (from_record r rest) tag.tag.now r.tag tag.ensures.some at_tag in
    c.whole_front.ensures.none c.in_err-record.was r.record rest (whole_in r x.is) at_record

pub returns-clause-some : goal.returns-clause-some
returns-clause-some c =
    let link = c.in_ok-link in
    let tag = c.in_ok-tag in
    let w = c.in_ok-record in
    record_from c.args.bytes.now link.rest.now tag.rest.now w.rest.now (record { link = link.link; tag = tag.tag.now; «record» = w.record.now }) link.ensures.within tag.ensures.within w.ensures.is link.ensures.some tag.ensures.some w.ensures.some
