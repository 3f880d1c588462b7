use Rattle.std.proofs.Common.{◌≡◌, ◌⊎◌, inl, inr, true, IsTrue, refl, ap, sym, ◌∙◌, take}
use Rattle.std.proofs.lemmas.Bool.{false≢true}
use Rattle.std.proofs.lemmas.Result.{err_from_is_err_and}
use Rattle.std.proofs.KnownBytes.{Consumes-nil}
use Rattle.amqp_frame.specs.Devices.{device_inner, has_failed, has_ended}
use Rattle.amqp_endpoint.specs.Connections.{ConnectionState, is_dead}
use Rattle.amqp_endpoint.specs.Steps.{EndpointState}
use Rattle.amqp_serve.specs.Serving.{reading}
use Rattle.amqp_serve.proofs.Servings.{kept_same, works_none, works_flushed}
use Rattle.amqp_serve.proofs.ServingReads.{step_done, step_lost, read_worked, read_stepped, read_more, read_ended, lost_at_ends, lost_in_step, lost_behind, lost_more, lost_by, flush_lost}
use Rattle.amqp_serve.proofs.serving.run.Goals.{then-not-is_over+in_ok-step_on, else-not-is_over, then-reads-test+else-not-ended, else-reads-test}
use Rattle.amqp_serve.proofs.serving.run.Goals as goal

pub step_on-requires-clause-ends : goal.step_on-requires-clause-ends
step_on-requires-clause-ends g c = (c.in_ok-write_out.ensures.went c.args.rule reading).still

pub returns-in_err-write_out-clause-lost : goal.returns-in_err-write_out-clause-lost
returns-in_err-write_out-clause-lost g c =
    let q = err_from_is_err_and c.from_residual.result c.from_residual.ensures.1 in
    lost_by c.from_residual.result c.args.rule q.0 _ c.args.endpoint.now c.write_out.new.endpoint _ _ (has_failed c.args.reader.now) _ _ q.1 q.2
    (lost_at_ends c.args.rule _ c.args.endpoint.now c.write_out.new.endpoint (g.R.Read.remaining (device_inner c.args.reader.now)) (has_failed c.args.reader.now) _ _ c.requires.reader
    (c.in_err-write_out.ensures.went c.args.rule reading))

pub returns-in_err-step_on-clause-lost : goal.returns-in_err-step_on-clause-lost
returns-in_err-step_on-clause-lost g c =
    let r = g.R.Read.remaining (device_inner c.args.reader.now) in
    let t = c.write_out.new.endpoint in
    let q = err_from_is_err_and c.from_residual-in_err-step_on.result c.from_residual-in_err-step_on.ensures.1 in
    lost_by c.from_residual-in_err-step_on.result c.args.rule q.0 _ c.args.endpoint.now c.step_on.new.endpoint r r (has_failed c.args.reader.now) _ _ q.1 q.2
    (lost_behind r r (has_failed c.args.reader.now) (c.in_ok-write_out.ensures.went c.args.rule reading).works
    (lost_in_step c.args.rule _ t c.step_on.new.endpoint (take 0 t.input.spare) r r (has_failed c.args.reader.now) _ _ c.requires.reader (Consumes-nil r) (step_lost c.step_on.ensures.stepped.0 c.step_on.ensures.stepped.1 c.in_err-step_on.was (c.step_on.ensures.stepped.2 t (kept_same t)))))

pub reads-init : goal.reads-init
reads-init g c =
    let s = c.args.endpoint.now in
    let t = c.write_out.new.endpoint in
    let r = g.R.Read.remaining (device_inner c.args.reader.now) in
    let wrote = c.in_ok-write_out.ensures.went c.args.rule reading in
    let same : t.connection ≡ s.connection = c.in_ok-write_out.ensures.connection in
    record {
      reader = c.requires.reader;
      open_ends = elim c.if-not-is_over.branch [
        | then-not-is_over+in_ok-step_on b ↦ rw (b.writer-is, b.sink-is) (step_done b.in_ok-step_on.was (b.step_on.ensures.stepped.2 t (kept_same t))).still
        | else-not-is_over b ↦ rw (b.writer-is, b.sink-is) wrote.still
      ];
      sent = elim c.if-not-is_over.branch [
        | then-not-is_over+in_ok-step_on b ↦ rw b.endpoint-is (step_done b.in_ok-step_on.was (b.step_on.ensures.stepped.2 t (kept_same t))).sent
        | else-not-is_over b ↦ rw b.endpoint-is c.in_ok-write_out.ensures.empty
      ];
      idle = elim c.if-not-is_over.branch [
        | then-not-is_over+in_ok-step_on b ↦ λ alive. rw b.endpoint-is ((step_done b.in_ok-step_on.was (b.step_on.ensures.stepped.2 t (kept_same t))).idle (sym c.is_over.ensures.value ∙ b.if-not-is_over.true))
        | else-not-is_over b ↦ λ alive. absurd (false≢true (sym alive ∙ ap (λ (x : EndpointState). is_dead x.connection.phase) b.endpoint-is ∙ sym c.is_over.ensures.value ∙ b.if-not-is_over.false))
      ];
      begun = elim c.if-not-is_over.branch [
        | then-not-is_over+in_ok-step_on b ↦ λ alive. rw b.endpoint-is ((step_done b.in_ok-step_on.was (b.step_on.ensures.stepped.2 t (kept_same t))).idle (ap (λ (k : ConnectionState). is_dead k.phase) same ∙ alive))
        | else-not-is_over b ↦ λ alive. absurd (false≢true (sym alive ∙ sym (ap (λ (k : ConnectionState). is_dead k.phase) same) ∙ sym c.is_over.ensures.value ∙ b.if-not-is_over.false))
      ];
      rule = elim c.if-not-is_over.branch [
        | then-not-is_over+in_ok-step_on b ↦ rw b.course-is b.step_on.ensures.rule
        | else-not-is_over b ↦ rw b.course-is refl
      ];
      course = elim c.if-not-is_over.branch [
        | then-not-is_over+in_ok-step_on b ↦ rw (b.endpoint-is, b.course-is) b.step_on.ensures.course
        | else-not-is_over b ↦ rw (b.endpoint-is, b.course-is) (λ is. absurd (false≢true is))
      ];
      read = elim c.if-not-is_over.branch [
        | then-not-is_over+in_ok-step_on b ↦ rw (b.endpoint-is, b.writer-is, b.sink-is) (read_stepped r wrote.works (step_done b.in_ok-step_on.was (b.step_on.ensures.stepped.2 t (kept_same t))))
        | else-not-is_over b ↦ rw (b.endpoint-is, b.writer-is, b.sink-is) (read_worked r wrote.works)
      ];
    }

pub reads-preserved : goal.reads-preserved
reads-preserved g c =
    let gone = c.in_ok-go_on.ensures.goes in
    record {
      reader = gone.reader;
      open_ends = gone.still;
      sent = gone.sent;
      idle = λ _. gone.idle;
      begun = λ _. gone.idle;
      rule = c.go_on.ensures.rule ∙ c.reads.invariant.rule;
      course = c.go_on.ensures.course;
      read = read_more _ _ _ c.reads.invariant.read (rw (sym c.reads.invariant.rule) gone.read);
    }

pub returns-in_err-go_on-clause-lost : goal.returns-in_err-go_on-clause-lost
returns-in_err-go_on-clause-lost g c =
    let q = err_from_is_err_and c.from_residual-in_err-go_on.result c.from_residual-in_err-go_on.ensures.1 in
    lost_by c.from_residual-in_err-go_on.result c.args.rule q.0 _ c.args.endpoint.now c.go_on.new.endpoint _ _ (has_failed c.go_on.new.reader) _ _ q.1 q.2
    (lost_more _ _ _ (has_failed c.go_on.new.reader) c.reads.invariant.rule c.reads.invariant.read c.in_err-go_on.ensures.goes)

pub returns-in_err-flush_both-clause-lost : goal.returns-in_err-flush_both-clause-lost
returns-in_err-flush_both-clause-lost g c =
    let r = g.R.Read.remaining (device_inner c.reads.reader) in
    let t = c.reads.endpoint in
    let q = err_from_is_err_and c.from_residual-in_err-flush_both.result c.from_residual-in_err-flush_both.ensures.1 in
    lost_by c.from_residual-in_err-flush_both.result c.args.rule q.0 _ c.args.endpoint.now t _ _ (has_failed c.reads.reader) _ _ q.1 q.2
    (lost_more _ _ _ (has_failed c.reads.reader) refl c.reads.invariant.read
    (lost_at_ends c.args.rule _ t t r (has_failed c.reads.reader) _ _ c.reads.invariant.reader
    (flush_lost c.args.rule t c.flush_both.result _ (g.W.Write.contents (device_inner c.reads.writer)) (g.W.Write.contents (device_inner c.flush_both.new.writer))
    (g.S.Write.contents (device_inner c.reads.sink)) (g.S.Write.contents (device_inner c.flush_both.new.sink)) (has_failed c.reads.writer) (has_failed c.flush_both.new.writer) (has_failed c.reads.sink)
    (has_failed c.flush_both.new.sink) c.in_err-flush_both.was c.flush_both.ensures.read c.flush_both.ensures.memory c.flush_both.ensures.write c.flush_both.ensures.sink c.flush_both.ensures.answers
    c.flush_both.ensures.records c.reads.invariant.open_ends)))

pub returns-clause-served : goal.returns-clause-served
returns-clause-served g c =
    let p = c.args.rule in
    let s = c.args.endpoint.now in
    let t = c.reads.endpoint in
    let w = g.W.Write.contents (device_inner c.reads.writer) in
    let w1 = g.W.Write.contents (device_inner c.flush_both.new.writer) in
    let k = g.S.Write.contents (device_inner c.reads.sink) in
    let k1 = g.S.Write.contents (device_inner c.flush_both.new.sink) in
    let over : (is_dead t.connection.phase ≡ true) ⊎ IsTrue (has_ended c.reads.reader) = elim c.reads-test.branch [
      | then-reads-test+else-not-ended b ↦ inr (sym b.ended.ensures ∙ b.if-not-ended.false)
      | else-reads-test b ↦ inl (sym c.is_over-in-reads.ensures.value ∙ b.reads-test.false)
    ] in
    read_ended p s t (g.R.Read.remaining (device_inner c.args.reader.now)) (g.R.Read.remaining (device_inner c.reads.reader)) (g.W.Write.contents (device_inner c.args.writer.now)) w
    (g.S.Write.contents (device_inner c.args.sink.now)) k c.reads.invariant.read t w1 k1
    (works_flushed p reading reading t t w w w1 k k k1 (works_none p reading t w k) c.flush_both.ensures.answers c.flush_both.ensures.records) c.finish.new.self c.finish.result (has_ended c.reads.reader)
    c.reads.invariant.sent refl (c.finish.ensures.finished, c.finish.ensures.end) c.reads.invariant.begun over
