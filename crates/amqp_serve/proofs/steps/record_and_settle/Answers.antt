use Rattle.std.proofs.Common.{◌≡◌, Err, refl, ap, ◌∙◌}
use Rattle.std.proofs.lemmas.Bool.{false≢true}
use Rattle.std.proofs.lemmas.Result.{err_from_is_err_and}
use Rattle.amqp_frame.specs.Devices.{device_inner, has_failed}
use Rattle.amqp_session.specs.Calls.{Take, Settle}
use Rattle.amqp_endpoint.specs.Connections.{ConnectionState}
use Rattle.amqp_endpoint.specs.Endpoints.{accepted_by, handed_in}
use Rattle.amqp_endpoint.specs.Runs.{HandedUp}
use Rattle.amqp_serve.specs.declared.serving.ServeFault.TheVariants.{Sink}
use Rattle.amqp_serve.specs.declared.note.Fate.TheVariants as fate
use Rattle.amqp_serve.specs.declared.steps.Receipt.TheVariants as receipt
use Rattle.amqp_serve.specs.Deeds.{receipt_by, received_as}
use Rattle.amqp_serve.specs.Noting.{receipt_of}
use Rattle.amqp_serve.specs.Serving.{Receiving, Settling}
use Rattle.amqp_serve.proofs.Deeds.{went_off, went_lost, marked_sink}
use Rattle.amqp_serve.proofs.Noting.{as_noted, told_noted}
use Rattle.amqp_serve.proofs.ServingMessages.{take_noted, take_lost, received_settled, received_open, received_told}
use Rattle.amqp_serve.proofs.Settles.{take_only, message_only}
use Rattle.amqp_serve.proofs.Supplied.{call_only}
use Rattle.amqp_serve.proofs.steps.record_and_settle.Goals as goal

pub returns-in_err-write_record-clause-went : goal.returns-in_err-write_record-clause-went
returns-in_err-write_record-clause-went g c = λ s took.
    let q = err_from_is_err_and c.from_residual.result c.from_residual.ensures.1 in
    let is : c.from_residual.result ≡ Err Sink = cc (c.in_err-write_record.ensures.fault) in (
      receipt_of c.args.note.now,
      (λ _. refl),
      went_lost _ c.from_residual.result _ Sink Sink is refl
          (take_lost c.args.rule.now s c.args.endpoint.now c.args.channel c.args.handle (g.W.Write.contents (device_inner c.args.writer.now)) (g.S.Write.contents (device_inner c.args.sink.now))
          (g.S.Write.contents (device_inner c.write_record.new.sink)) (has_failed c.args.writer.now) (has_failed c.args.writer.now) (has_failed c.args.sink.now) (has_failed c.write_record.new.sink)
          (handed_in c.args.taken.now) took c.in_err-write_record.ensures.begun (marked_sink _ c.requires.ends.writer (c.in_err-write_record.ensures.failed.0 refl))),
    )

pub returns-then-taken-clause-went : goal.returns-then-taken-clause-went
returns-then-taken-clause-went g c = λ s took.
    let p = c.args.rule.now in
    let t = c.args.endpoint.now in
    let d = handed_in c.args.taken.now in (
      receipt.Settled (received_as d),
      (λ whole. as_noted fate.Settled (c.took.ensures whole)),
      received_settled p _ s t c.args.channel d (received_as d) _ _ refl c.if-taken.true (call_only p s t c.args.channel (Take c.args.handle) (HandedUp d) took).config
          (take_noted p s t c.args.channel c.args.handle (g.W.Write.contents (device_inner c.args.writer.now)) (g.S.Write.contents (device_inner c.args.sink.now))
          (g.S.Write.contents (device_inner c.write_record.new.sink)) (has_failed c.args.writer.now) (has_failed c.args.writer.now) (has_failed c.args.sink.now) (has_failed c.write_record.new.sink) d took
          c.in_ok-write_record.ensures.written (record { writer = c.requires.ends.writer; sink = λ failed. false≢true (c.in_ok-write_record.ensures.failed.1 failed) })),
    )

pub returns-then-taken-clause-only : goal.returns-then-taken-clause-only
returns-then-taken-clause-only g c = λ s took. take_only c.args.rule.now s c.args.endpoint.now c.args.channel c.args.handle (handed_in c.args.taken.now) took

pub returns-in_err-write_out-clause-went : goal.returns-in_err-write_out-clause-went
returns-in_err-write_out-clause-went g c = λ s took.
    let p = c.args.rule.now in
    let t = c.args.endpoint.now in
    let d = handed_in c.args.taken.now in
    let m = received_as d in
    let q = err_from_is_err_and c.from_residual-in_err-write_out.result c.from_residual-in_err-write_out.ensures.1 in (
      receipt_of c.took.new.self,
      (λ _. refl),
      went_lost _ c.from_residual-in_err-write_out.result _ q.0 _ q.1 q.2
          (went_off
          (received_open p (Receiving c.args.channel c.args.handle) s t c.args.channel d m _ _ refl c.if-taken.false
          (take_noted p s t c.args.channel c.args.handle (g.W.Write.contents (device_inner c.args.writer.now)) (g.S.Write.contents (device_inner c.args.sink.now))
          (g.S.Write.contents (device_inner c.write_record.new.sink)) (has_failed c.args.writer.now) (has_failed c.args.writer.now) (has_failed c.args.sink.now) (has_failed c.write_record.new.sink) d took
          c.in_ok-write_record.ensures.written (record { writer = c.requires.ends.writer; sink = λ failed. false≢true (c.in_ok-write_record.ensures.failed.1 failed) })))
          (c.in_err-write_out.ensures.went p (Settling c.args.channel m.delivery_id))),
    )

pub returns-clause-went : goal.returns-clause-went
returns-clause-went g c = λ s took.
    let p = c.args.rule.now in
    let t = c.args.endpoint.now in
    let u = c.write_out.new.endpoint in
    let v = c.settle-told.new.self in
    let d = handed_in c.args.taken.now in
    let m = received_as d in
    let r = c.settle-told.result in (
      receipt_by m r,
      (λ whole. rw c.of-note.ensures (told_noted r (c.took.ensures whole))),
      received_told p (Receiving c.args.channel c.args.handle) s t u v c.args.channel m r _ _ _
          (received_open p (Receiving c.args.channel c.args.handle) s t c.args.channel d m _ _ refl c.if-taken.false
          (take_noted p s t c.args.channel c.args.handle (g.W.Write.contents (device_inner c.args.writer.now)) (g.S.Write.contents (device_inner c.args.sink.now))
          (g.S.Write.contents (device_inner c.write_record.new.sink)) (has_failed c.args.writer.now) (has_failed c.args.writer.now) (has_failed c.args.sink.now) (has_failed c.write_record.new.sink) d took
          c.in_ok-write_record.ensures.written (record { writer = c.requires.ends.writer; sink = λ failed. false≢true (c.in_ok-write_record.ensures.failed.1 failed) })))
          (c.in_ok-write_out.ensures.went p (Settling c.args.channel m.delivery_id)) c.in_ok-write_out.ensures.empty c.is_id.ensures c.settle-told.ensures
          ((call_only p u v c.args.channel (Settle m.delivery_id p.outcome) (accepted_by r) c.settle-told.ensures).config ∙ ap (λ (k : ConnectionState). k.config) c.in_ok-write_out.ensures.connection
          ∙ (call_only p s t c.args.channel (Take c.args.handle) (HandedUp d) took).config),
    )

pub returns-clause-only : goal.returns-clause-only
returns-clause-only g c = λ s took.
    let p = c.args.rule.now in
    let u = c.write_out.new.endpoint in
    let v = c.settle-told.new.self in
    let r = c.settle-told.result in
    message_only p s c.args.endpoint.now u v c.args.channel c.args.handle p.outcome (handed_in c.args.taken.now) r took c.in_ok-write_out.ensures.connection c.ids_are_apart.ensures
    c.settle-told.ensures c.if-taken.false c.is_id.ensures
