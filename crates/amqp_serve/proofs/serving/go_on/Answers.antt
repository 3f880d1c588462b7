use Rattle.std.proofs.Common.{◌≡◌, Err, refl}
use Rattle.std.proofs.lemmas.Bool.{false≢true}
use Rattle.std.proofs.lemmas.Result.{err_from_is_err_and}
use Rattle.amqp_frame.specs.Devices.{device_inner, has_failed}
use Rattle.amqp_serve.specs.declared.serving.ServeFault.TheVariants.{Read}
use Rattle.amqp_serve.specs.Serving.{reading}
use Rattle.amqp_serve.proofs.Servings.{kept_same, works_none, works_flushed}
use Rattle.amqp_serve.proofs.ServingReads.{lost_at_ends, lost_at_reader, lost_behind, flush_lost, goes_behind, goes_ended, goes_lost}
use Rattle.amqp_serve.proofs.serving.go_on.Goals as goal

pub returns-in_err-flush_both-clause-goes : goal.returns-in_err-flush_both-clause-goes
returns-in_err-flush_both-clause-goes g c =
    let q = err_from_is_err_and c.from_residual.result c.from_residual.ensures.1 in
    goes_lost c.from_residual.result _ q.0 _ _ _ _ _ _ _ _ q.1 q.2
    (lost_at_ends c.args.course.now.rule _ c.args.endpoint.now c.args.endpoint.now (g.R.Read.remaining (device_inner c.args.reader.now)) (has_failed c.args.reader.now) _ _ c.requires.reader
    (flush_lost c.args.course.now.rule c.args.endpoint.now c.flush_both.result _ (g.W.Write.contents (device_inner c.args.writer.now)) (g.W.Write.contents (device_inner c.flush_both.new.writer))
    (g.S.Write.contents (device_inner c.args.sink.now)) (g.S.Write.contents (device_inner c.flush_both.new.sink)) (has_failed c.args.writer.now) (has_failed c.flush_both.new.writer) (has_failed c.args.sink.now)
    (has_failed c.flush_both.new.sink) c.in_err-flush_both.was c.flush_both.ensures.read c.flush_both.ensures.memory c.flush_both.ensures.write c.flush_both.ensures.sink c.flush_both.ensures.answers
    c.flush_both.ensures.records c.requires.ends))

pub returns-in_err-fill_hand-clause-goes : goal.returns-in_err-fill_hand-clause-goes
returns-in_err-fill_hand-clause-goes g c =
    let s = c.args.endpoint.now in
    let p = c.args.course.now.rule in
    let r = g.R.Read.remaining (device_inner c.args.reader.now) in
    let r1 = g.R.Read.remaining (device_inner c.fill_hand.new.reader) in
    let w = g.W.Write.contents (device_inner c.args.writer.now) in
    let w1 = g.W.Write.contents (device_inner c.flush_both.new.writer) in
    let k = g.S.Write.contents (device_inner c.args.sink.now) in
    let k1 = g.S.Write.contents (device_inner c.flush_both.new.sink) in
    let q = err_from_is_err_and c.from_residual-in_err-fill_hand.result c.from_residual-in_err-fill_hand.ensures.1 in
    let is : c.from_residual-in_err-fill_hand.result ≡ Err Read = cc (c.in_err-fill_hand.ensures.fault) in
    goes_lost c.from_residual-in_err-fill_hand.result p Read Read s s r r1 (has_failed c.fill_hand.new.reader) _ _ is refl
    (lost_behind r r1 (has_failed c.fill_hand.new.reader)
    (works_flushed p reading reading s s w w w1 k k k1 (works_none p reading s w k) c.flush_both.ensures.answers c.flush_both.ensures.records)
    (lost_at_reader p s s r r1 (has_failed c.fill_hand.new.reader) _ (c.in_err-fill_hand.ensures.failed.0 refl) c.fill_hand.ensures.kept (kept_same s) c.requires.sent c.requires.alive
    c.in_ok-flush_both.ensures.still))

pub returns-then-not-branch-clause-goes : goal.returns-then-not-branch-clause-goes
returns-then-not-branch-clause-goes g c =
    let s = c.args.endpoint.now in
    let p = c.args.course.now.rule in
    let w = g.W.Write.contents (device_inner c.args.writer.now) in
    let w1 = g.W.Write.contents (device_inner c.flush_both.new.writer) in
    let k = g.S.Write.contents (device_inner c.args.sink.now) in
    let k1 = g.S.Write.contents (device_inner c.flush_both.new.sink) in
    goes_behind p c.read_on.result s s c.read_on.new.endpoint (g.R.Read.remaining (device_inner c.args.reader.now)) (g.R.Read.remaining (device_inner c.fill_hand.new.reader))
    (g.R.Read.remaining (device_inner c.read_on.new.reader)) (has_failed c.read_on.new.reader) _ _ _
    (works_flushed p reading reading s s w w w1 k k k1 (works_none p reading s w k) c.flush_both.ensures.answers c.flush_both.ensures.records) c.fill_hand.ensures.kept c.read_on.ensures.goes

pub returns-then-ended-clause-goes : goal.returns-then-ended-clause-goes
returns-then-ended-clause-goes g c =
    let s = c.args.endpoint.now in
    let p = c.args.course.now.rule in
    let w = g.W.Write.contents (device_inner c.args.writer.now) in
    let w1 = g.W.Write.contents (device_inner c.flush_both.new.writer) in
    let k = g.S.Write.contents (device_inner c.args.sink.now) in
    let k1 = g.S.Write.contents (device_inner c.flush_both.new.sink) in
    goes_ended p s (g.R.Read.remaining (device_inner c.args.reader.now)) (g.R.Read.remaining (device_inner c.fill_hand.new.reader)) (has_failed c.fill_hand.new.reader) _ _
    (works_flushed p reading reading s s w w w1 k k k1 (works_none p reading s w k) c.flush_both.ensures.answers c.flush_both.ensures.records) c.fill_hand.ensures.kept
    (λ failed. false≢true (c.in_ok-fill_hand.ensures.failed.1 failed)) c.requires.sent c.requires.idle c.in_ok-flush_both.ensures.still

pub returns-clause-goes : goal.returns-clause-goes
returns-clause-goes g c =
    let s = c.args.endpoint.now in
    let p = c.args.course.now.rule in
    let w = g.W.Write.contents (device_inner c.args.writer.now) in
    let w1 = g.W.Write.contents (device_inner c.flush_both.new.writer) in
    let k = g.S.Write.contents (device_inner c.args.sink.now) in
    let k1 = g.S.Write.contents (device_inner c.flush_both.new.sink) in
    goes_behind p c.hand_on-2.result s s c.hand_on-2.new.endpoint (g.R.Read.remaining (device_inner c.args.reader.now)) (g.R.Read.remaining (device_inner c.fill_hand.new.reader))
    (g.R.Read.remaining (device_inner c.hand_on-2.new.reader)) (has_failed c.hand_on-2.new.reader) _ _ _
    (works_flushed p reading reading s s w w w1 k k k1 (works_none p reading s w k) c.flush_both.ensures.answers c.flush_both.ensures.records) c.fill_hand.ensures.kept c.hand_on-2.ensures.goes
