use Rattle.std.proofs.Common.{arith, sym, ◌∙◌}
use Rattle.amqp_reason.specs.Reasons.{reason_of}
use Rattle.amqp_endpoint.specs.Asking.{refused_of, refusal_said}
use Rattle.amqp_endpoint.proofs.Lent.{fits, asked, counts}
use Rattle.amqp_endpoint.proofs.reasons.refuse.Goals as goal

pub say-requires-clause-short : goal.say-requires-clause-short
say-requires-clause-short g c =
    let e = c.in-Ok.ensures in
    fits c.args.connection.now c.args.channel c.in-Some.session.now c.ask.new.session (refused_of c.args.refusal (reason_of c.args.reason.now)) (refusal_said c.in-Ok.refused)
    c.in-Some.ensures.value e.0 e.1 e.2 c.answers_fit_their_room.ensures.calls

pub say-requires-clause-room : goal.say-requires-clause-room
say-requires-clause-room g c =
    let e = c.in-Ok.ensures in
    let short = fits c.args.connection.now c.args.channel c.in-Some.session.now c.ask.new.session (refused_of c.args.refusal (reason_of c.args.reason.now)) (refusal_said c.in-Ok.refused)
    c.in-Some.ensures.value e.0 e.1 e.2 c.answers_fit_their_room.ensures.calls in
    let room = c.has_room.ensures.room.0 c.if-not-has_room.false in omega (arith, short, room)

pub returns-in-Ok-clause-answered : goal.returns-in-Ok-clause-answered
returns-in-Ok-clause-answered g c =
    let e = c.in-Ok.ensures in
    asked c.args.connection.now c.args.channel c.in-Some.session.now c.ask.new.session (refused_of c.args.refusal (reason_of c.args.reason.now)) (refusal_said c.in-Ok.refused)
    c.in-Some.ensures.value e.0 e.1 e.2 c.args.out.now c.say.new.out (sym c.takes_no_call.ensures ∙ c.if-takes_no_call.false) (sym c.has_room.ensures.value ∙ c.if-not-has_room.false) c.say.ensures

pub returns-in-Ok-clause-count : goal.returns-in-Ok-clause-count
returns-in-Ok-clause-count g c =
    counts c.args.connection.now c.args.channel c.in-Some.session.now (refused_of c.args.refusal (reason_of c.args.reason.now)) c.in-Ok.refused.count c.in-Some.ensures.value c.in-Ok.ensures.3
