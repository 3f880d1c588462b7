use Rattle.std.proofs.Common.{arith}
use Rattle.amqp_perform.specs.declared.performative.Performative.TheVariants as performative
use Rattle.amqp_perform.specs.Said.{said}
use Rattle.amqp_session.specs.Frames.{attaching}
use Rattle.amqp_endpoint.specs.Acting.{attach_answered}
use Rattle.amqp_endpoint.proofs.SessionFrames.{refused_by_two, first_fits, both_fit, both_put}
use Rattle.amqp_endpoint.proofs.sessions.answer_attach.Goals as goal

pub put-requires-in-Refusal-clause-short : goal.put-requires-in-Refusal-clause-short
put-requires-in-Refusal-clause-short g c =
    let a = attaching c.args.attach.now c.args.bounds in
    let reply = said (performative.Attach c.refusal_reply.result) in
    let two = refused_by_two a c.args.answer.now c.in-Refusal.detach reply c.in-Refusal.is (c.refusal_reply.ensures c.args.bounds) in
    first_fits c.args.channel (attach_answered a c.args.answer.now) reply (said (performative.Detach c.in-Refusal.detach)) c.requires.short two

pub put-requires-in-Refusal-clause-room : goal.put-requires-in-Refusal-clause-room
put-requires-in-Refusal-clause-room g c = omega (arith, put-requires-in-Refusal-clause-short g c, c.requires.room)

pub put-requires-in-Refusal-2-clause-room : goal.put-requires-in-Refusal-2-clause-room
put-requires-in-Refusal-2-clause-room g c =
    let a = attaching c.args.attach.now c.args.bounds in
    let reply = said (performative.Attach c.refusal_reply.result) in
    let two = refused_by_two a c.args.answer.now c.in-Refusal.detach reply c.in-Refusal.is (c.refusal_reply.ensures c.args.bounds) in
    both_fit c.args.out.now c.put-in-Refusal.new.self c.args.channel (attach_answered a c.args.answer.now) reply (said (performative.Detach c.in-Refusal.detach)) c.requires.room
    c.requires.short two c.put-in-Refusal.ensures

pub returns-in-Refusal : goal.returns-in-Refusal
returns-in-Refusal g c =
    let a = attaching c.args.attach.now c.args.bounds in
    let reply = said (performative.Attach c.refusal_reply.result) in
    let two = refused_by_two a c.args.answer.now c.in-Refusal.detach reply c.in-Refusal.is (c.refusal_reply.ensures c.args.bounds) in
    both_put c.args.out.now c.put-in-Refusal.new.self c.put-in-Refusal-2.new.self c.args.channel (attach_answered a c.args.answer.now) reply (said (performative.Detach c.in-Refusal.detach)) two
    c.put-in-Refusal.ensures c.put-in-Refusal-2.ensures
