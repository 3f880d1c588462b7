use Rattle.std.proofs.Common.{[]}
use Rattle.std.proofs.lemmas.Result.{err_from_is_err_and}
use Rattle.amqp_serve.specs.Deeds.{topped_deeds, with_both, ends}
use Rattle.amqp_serve.proofs.Deeds.{went_silent, quiet_then, then_quiet, went_on, went_off, went_lost, topped_both}
use Rattle.amqp_serve.proofs.OneLink.{link_front, link_middle, link_rest, link_supplied}
use Rattle.amqp_serve.proofs.Supplied.{both_fine, both_set, nothing_of}
use Rattle.amqp_serve.proofs.supplies.top_up_link.Goals as goal

pub top_up_one-requires-2 : goal.top_up_one-requires-2
top_up_one-requires-2 g c = record { ends = (c.in_ok-widened.ensures.went []).still }

pub returns-in_err-widened-clause-went : goal.returns-in_err-widened-clause-went
returns-in_err-widened-clause-went g c =
    let s = c.args.endpoint.now in
    let p = err_from_is_err_and c.from_residual.result c.from_residual.ensures.1 in
    went_lost _ c.from_residual.result _ p.0 _ p.1 p.2
    (went_off
    (went_silent c.args.rule.now _ _ s (ends g.W.Write.contents g.S.Write.contents c.args.writer.now c.args.sink.now)
    (link_front c.args.rule.now s s s c.args.channel c.args.handle c.requires.channel c.requires.handle c.requires.but (nothing_of c.args.rule.now _ s.connection) (nothing_of c.args.rule.now _ s.connection)) c.requires.ends)
    (c.in_err-widened.ensures.went _))

pub returns-in_err-granted-clause-went : goal.returns-in_err-granted-clause-went
returns-in_err-granted-clause-went g c =
    let s = c.args.endpoint.now in
    let t = c.top_up_one.new.endpoint in
    let f = ends g.W.Write.contents g.S.Write.contents c.top_up_one.new.writer c.top_up_one.new.sink in
    let p = err_from_is_err_and c.from_residual-in_err-granted.result c.from_residual-in_err-granted.ensures.1 in
    let first = c.in_ok-widened.ensures.only in
    let on = c.in_ok-widened.ensures.went _ in
    let front = link_front c.args.rule.now s t t c.args.channel c.args.handle c.requires.channel c.requires.handle c.requires.but first (nothing_of c.args.rule.now _ t.connection) in
    let middle = link_middle c.args.rule.now s t t c.args.channel c.args.handle c.requires.channel c.requires.handle c.requires.but first (nothing_of c.args.rule.now _ t.connection) in
    went_lost _ c.from_residual-in_err-granted.result _ p.0 _ p.1 p.2
    (went_off
    (then_quiet (quiet_then (went_silent c.args.rule.now _ _ s (ends g.W.Write.contents g.S.Write.contents c.args.writer.now c.args.sink.now) front c.requires.ends) on)
    (went_silent c.args.rule.now _ _ t f middle on.still))
    (c.in_err-granted.ensures.went _))

pub returns-clause-went : goal.returns-clause-went
returns-clause-went g c =
    let s = c.args.endpoint.now in
    let t = c.top_up_one.new.endpoint in
    let u = c.top_up_one-2.new.endpoint in
    let f = ends g.W.Write.contents g.S.Write.contents c.top_up_one.new.writer c.top_up_one.new.sink in
    let h = ends g.W.Write.contents g.S.Write.contents c.top_up_one-2.new.writer c.top_up_one-2.new.sink in
    let first = c.in_ok-widened.ensures.only in
    let second = c.in_ok-granted.ensures.only in
    let on = c.in_ok-widened.ensures.went _ in
    let front = link_front c.args.rule.now s t u c.args.channel c.args.handle c.requires.channel c.requires.handle c.requires.but first second in
    let middle = link_middle c.args.rule.now s t u c.args.channel c.args.handle c.requires.channel c.requires.handle c.requires.but first second in
    let rest = link_rest c.args.rule.now s t u c.args.channel c.args.handle c.requires.channel c.requires.handle c.requires.but first second in
    let more = c.in_ok-granted.ensures.went _ in
    rw c.and.ensures
    (then_quiet
    (went_on (topped_deeds (with_both c.in_ok-widened.widened c.in_ok-granted.granted))
    (then_quiet (quiet_then (went_silent c.args.rule.now _ _ s (ends g.W.Write.contents g.S.Write.contents c.args.writer.now c.args.sink.now) front c.requires.ends) on)
    (went_silent c.args.rule.now _ _ t f middle on.still))
    more (topped_both c.in_ok-widened.widened c.in_ok-granted.granted))
    (went_silent c.args.rule.now _ _ u h rest more.still))

pub returns-clause-supplied : goal.returns-clause-supplied
returns-clause-supplied g c =
    let a = c.in_ok-widened.widened.refused in
    let b = c.in_ok-granted.granted.refused in
    let fine = link_supplied c.args.rule.now c.args.endpoint.now c.top_up_one.new.endpoint c.top_up_one-2.new.endpoint c.args.channel c.args.handle c.requires.channel c.requires.handle c.requires.but
    c.in_ok-widened.ensures.only c.in_ok-granted.ensures.only a b c.in_ok-widened.ensures.supplied c.in_ok-granted.ensures.supplied in
    rw c.and.ensures (λ is. fine.0 (both_fine a b is), λ all. let none = fine.1 all in both_set a b none.0 none.1)
