use Rattle.std.proofs.Common.{arith, length, ◌++◌}
use Rattle.amqp_spool.proofs.EntryFronts.{to_length, has_message, whole_from}
use Rattle.amqp_spool.proofs.entry.whole_front.Goals as goal

pub returns-in_err-len-clause-none : goal.returns-in_err-len-clause-none
returns-in_err-len-clause-none c = λ _ record_ rest is e.
    let f = c.in_ok-behind in
    let here = to_length c.args.bytes.now f.field-0-0.now f.behind.now record_ rest is f.ensures.len f.ensures.some e in
    c.word32_front.ensures.none c.in_err-len.was (length is.message) (is.message ++ rest) here

pub returns-in_err-front-clause-none : goal.returns-in_err-front-clause-none
returns-in_err-front-clause-none c = λ _ record_ rest is e.
    let f = c.in_ok-behind in
    let here = to_length c.args.bytes.now f.field-0-0.now f.behind.now record_ rest is f.ensures.len f.ensures.some e in
    let enough = has_message f.behind.now c.in_ok-len.behind.now is.message rest c.in_ok-len.len c.in_ok-len.ensures.within is.small c.in_ok-len.ensures.some here in
    let few = c.front-2.ensures.none c.in_err-front.was in
    omega (arith, enough, few)

pub returns-clause-is : goal.returns-clause-is
returns-clause-is c =
    let f = c.in_ok-behind in
    let m = c.in_ok-front in
    let w = c.in_ok-record in
    whole_from c.args.bytes.now f.field-0-0.now f.behind.now c.in_ok-len.behind.now m.field-0-0.now m.field-0-1.now w.record.now w.rest.now c.in_ok-len.len c.in_ok-len.ensures.within
    f.ensures.some f.ensures.len c.in_ok-len.ensures.some m.ensures.some m.ensures.len w.ensures.some w.ensures.len
