use Rattle.std.proofs.Common.{◌≡◌, Err, refl, sym, ap, ◌∙◌}
use Rattle.std.proofs.KnownBytes.{Keeps-refl}
use Rattle.std.proofs.lemmas.Bool.{false≢true}
use Rattle.std.proofs.lemmas.Option.{none-some}
use Rattle.std.proofs.lemmas.Result.{err_from_is_err_and}
use Rattle.amqp_frame.specs.Devices.{device_inner, has_failed}
use Rattle.amqp_endpoint.specs.Steps.{EndpointState}
use Rattle.amqp_serve.specs.declared.serving.ServeFault.TheVariants.{Write, Sink}
use Rattle.amqp_serve.specs.Deeds.{no_deeds, ends, AreOpen}
use Rattle.amqp_serve.proofs.Servings.{front_taken}
use Rattle.amqp_serve.proofs.Deeds.{went_none, went_moved, went_flushed, went_stopped, went_lost, quiet_then, marked_sink, marked_writer}
use Rattle.amqp_serve.proofs.sending.write_out.Goals as goal

pub pieces-init : goal.pieces-init
pieces-init g c = record {
  open_ends = c.requires.ends;
  connection = refl;
  went = λ p a. went_none p a c.args.endpoint.now (ends g.W.Write.contents g.S.Write.contents c.args.writer.now c.args.sink.now) c.requires.ends;
}

pub returns-in_err-record_first-clause-went : goal.returns-in_err-record_first-clause-went
returns-in_err-record_first-clause-went g c =
    let w = g.W.Write.contents (device_inner c.pieces.writer) in
    let q = err_from_is_err_and c.from_residual.result c.from_residual.ensures.1 in
    let is : c.from_residual.result ≡ Err Sink = cc (c.in_err-record_first.ensures.fault) in λ p a.
    went_lost a c.from_residual.result _ Sink Sink is refl
    (went_stopped p no_deeds a a c.args.endpoint.now c.pieces.endpoint (ends g.W.Write.contents g.S.Write.contents c.args.writer.now c.args.sink.now) w w (g.S.Write.contents (device_inner c.pieces.sink))
    (g.S.Write.contents (device_inner c.record_first.new.sink)) (has_failed c.pieces.writer) (has_failed c.pieces.writer) (has_failed c.pieces.sink) (has_failed c.record_first.new.sink) Sink
    (c.pieces.invariant.went p a) (Keeps-refl w) c.record_first.ensures.records tt
    (marked_sink _ c.pieces.invariant.open_ends.writer (c.in_err-record_first.ensures.failed.0 refl)))

pub returns-in-None-clause-went : goal.returns-in-None-clause-went
returns-in-None-clause-went g c = λ p a.
    went_stopped p no_deeds a a c.args.endpoint.now c.pieces.endpoint (ends g.W.Write.contents g.S.Write.contents c.args.writer.now c.args.sink.now) (g.W.Write.contents (device_inner c.pieces.writer))
    (g.W.Write.contents (device_inner c.hand_over.new.writer)) (g.S.Write.contents (device_inner c.pieces.sink)) (g.S.Write.contents (device_inner c.record_first.new.sink)) (has_failed c.pieces.writer)
    (has_failed c.hand_over.new.writer) (has_failed c.pieces.sink) (has_failed c.record_first.new.sink) Write (c.pieces.invariant.went p a) (c.in-None.ensures.none refl) c.record_first.ensures.records tt
    (marked_writer _ (c.in-None.ensures.failed.0 refl) (λ failed. false≢true (c.in_ok-record_first.ensures.failed.1 failed)))

pub pieces-preserved : goal.pieces-preserved
pieces-preserved g c =
    let w = g.W.Write.contents (device_inner c.pieces.writer) in
    let w1 = g.W.Write.contents (device_inner c.hand_over.new.writer) in
    let k1 = g.S.Write.contents (device_inner c.record_first.new.sink) in
    let fit : AreOpen (ends g.W.Write.contents g.S.Write.contents c.hand_over.new.writer c.record_first.new.sink) =
    record { writer = λ failed. none-some _ (sym (c.in-Some.ensures.failed.1 failed)); sink = λ failed. false≢true (c.in_ok-record_first.ensures.failed.1 failed) } in
    record {
      open_ends = fit;
      connection = ap (λ (s : EndpointState). s.connection) c.sent.ensures.new ∙ c.pieces.invariant.connection;
      went = λ p a. quiet_then
          (went_flushed p no_deeds a a c.args.endpoint.now c.pieces.endpoint (ends g.W.Write.contents g.S.Write.contents c.args.writer.now c.args.sink.now) w w
          (g.S.Write.contents (device_inner c.pieces.sink)) k1 (has_failed c.pieces.writer) (has_failed c.pieces.writer) (has_failed c.pieces.sink) (has_failed c.record_first.new.sink)
          (c.pieces.invariant.went p a) (Keeps-refl w) c.record_first.ensures.records (record { writer = c.pieces.invariant.open_ends.writer; sink = fit.sink }))
          (went_moved p a c.pieces.endpoint c.sent.new.self c.in-Some.count w w1 k1 (has_failed c.pieces.writer) (has_failed c.hand_over.new.writer) (has_failed c.record_first.new.sink)
          (has_failed c.record_first.new.sink) c.sent.ensures.new
          (front_taken c.pieces.endpoint.unsent c.unsent_front-piece.result.now c.in-Some.count w w1 c.in-Some.ensures.bound c.unsent_front-piece.ensures.front c.in-Some.ensures.taken) fit);
    }
