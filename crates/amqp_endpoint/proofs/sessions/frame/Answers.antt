use Rattle.std.proofs.Common.{◌≤◌, subst, sym}
use Rattle.amqp_endpoint.specs.Acting.{replied}
use Rattle.amqp_endpoint.specs.Fields.{frame_in}
use Rattle.amqp_endpoint.specs.Connections.{ConnectionState, slot_at}
use Rattle.amqp_endpoint.proofs.SessionFrames.{live_there, frame_there, framed_as, unframed_as, low_is, answer_is, answer_fits, taken, refused}
use Rattle.amqp_endpoint.proofs.sessions.frame.Goals as goal

pub answer-requires-clause-channel : goal.answer-requires-clause-channel
answer-requires-clause-channel g c =
    let old = c.args.connection.now in
    let t = live_there (slot_at old c.args.channel) c.requires.live in
    let f = frame_there (frame_in old.config c.args.performative.now c.args.payload.now) c.requires.session in
    let framed = framed_as old c.frame.new.self c.args.channel t.0 f.0 c.frame.result c.in-Ok.done c.in-Ok.is (c.frame.ensures t.0 f.0 t.1 f.1) in
    subst (λ (s : ConnectionState). c.args.channel ≤ s.config.channel_max) (sym framed.after) c.requires.channel

pub answer-requires-clause-short : goal.answer-requires-clause-short
answer-requires-clause-short g c =
    let old = c.args.connection.now in
    let t = live_there (slot_at old c.args.channel) c.requires.live in
    let f = frame_there (frame_in old.config c.args.performative.now c.args.payload.now) c.requires.session in
    let framed = framed_as old c.frame.new.self c.args.channel t.0 f.0 c.frame.result c.in-Ok.done c.in-Ok.is (c.frame.ensures t.0 f.0 t.1 f.1) in
    answer_fits old c.frame.new.self c.args.channel c.args.performative.now c.args.payload.now t.0 f.0 t.1 f.1 c.frames_are_as_long.ensures c.in-Ok.done framed

pub returns-in-Ok : goal.returns-in-Ok
returns-in-Ok g c = λ t f live is.
    let old = c.args.connection.now in
    let framed = framed_as old c.frame.new.self c.args.channel t f c.frame.result c.in-Ok.done c.in-Ok.is (c.frame.ensures t f live is) in
    taken old c.frame.new.self c.args.channel t f (low_is old c.frame.new.self c.args.channel c.args.performative.now c.args.payload.now t f live is c.if-is_too_high.ensures)
    framed.accepted framed.after c.args.out.now c.answer.new.out (replied c.frame.new.self.config c.args.performative.now c.in-Ok.done.answer) c.told.result c.in-Ok.done.report
    c.answer.ensures (answer_is old c.frame.new.self c.args.channel c.args.performative.now c.args.payload.now t f live is c.in-Ok.done framed) c.told.ensures framed.report

pub returns-in-Err : goal.returns-in-Err
returns-in-Err g c = λ t f live is.
    let old = c.args.connection.now in
    let unframed = unframed_as old c.frame.new.self c.args.channel t f c.frame.result c.in-Err.fault c.in-Err.is (c.frame.ensures t f live is) in
    refused old c.frame.new.self c.args.channel t f (low_is old c.frame.new.self c.args.channel c.args.performative.now c.args.payload.now t f live is c.if-is_too_high.ensures)
    c.in-Err.fault unframed c.refuse.new.connection c.args.out.now c.refuse.new.out c.refuse.result c.refuse.ensures
