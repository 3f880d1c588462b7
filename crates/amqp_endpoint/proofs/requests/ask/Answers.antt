use Rattle.std.proofs.Common.{arith, sym, ◌∙◌}
use Rattle.amqp_endpoint.specs.Asking.{asked_of}
use Rattle.amqp_endpoint.specs.Sayings.{said_of}
use Rattle.amqp_endpoint.proofs.Lent.{fits, asked, counts}
use Rattle.amqp_endpoint.proofs.requests.ask.Goals as goal

pub put-requires-clause-short : goal.put-requires-clause-short
put-requires-clause-short g c =
    let e = c.in-Ok.ensures in
    fits c.args.connection.now c.args.channel c.in-Some.session.now c.ask.new.session (asked_of c.args.request) (said_of c.in-Ok.asked.saying) c.in-Some.ensures.value e.0 e.1 e.2
    c.answers_fit_their_room.ensures.calls

pub put-requires-clause-room : goal.put-requires-clause-room
put-requires-clause-room g c =
    let e = c.in-Ok.ensures in
    let short = fits c.args.connection.now c.args.channel c.in-Some.session.now c.ask.new.session (asked_of c.args.request) (said_of c.in-Ok.asked.saying) c.in-Some.ensures.value e.0 e.1 e.2
    c.answers_fit_their_room.ensures.calls in
    let room = c.has_room.ensures.room.0 c.if-not-has_room.false in omega (arith, short, room)

pub returns-in-Ok-clause-answered : goal.returns-in-Ok-clause-answered
returns-in-Ok-clause-answered g c =
    let e = c.in-Ok.ensures in
    asked c.args.connection.now c.args.channel c.in-Some.session.now c.ask.new.session (asked_of c.args.request) (said_of c.in-Ok.asked.saying) c.in-Some.ensures.value e.0 e.1 e.2
    c.args.out.now c.put.new.self (sym c.takes_no_call.ensures ∙ c.if-takes_no_call.false) (sym c.has_room.ensures.value ∙ c.if-not-has_room.false) c.put.ensures

pub returns-in-Ok-clause-count : goal.returns-in-Ok-clause-count
returns-in-Ok-clause-count g c = counts c.args.connection.now c.args.channel c.in-Some.session.now (asked_of c.args.request) c.in-Ok.asked.count c.in-Some.ensures.value c.in-Ok.ensures.3
