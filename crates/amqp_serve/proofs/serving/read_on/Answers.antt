use Rattle.std.proofs.Common.{◌≡◌, Err, take, refl}
use Rattle.std.proofs.lemmas.Bool.{false≢true}
use Rattle.std.proofs.lemmas.Result.{err_from_is_err_and}
use Rattle.amqp_frame.specs.Devices.{device_inner, has_failed}
use Rattle.amqp_serve.specs.declared.serving.ServeFault.TheVariants.{Read}
use Rattle.amqp_serve.proofs.ServingFeeds.{idle_wants}
use Rattle.amqp_serve.proofs.ServingReads.{lost_at_reader, goes_by_step, goes_lost}
use Rattle.amqp_serve.proofs.serving.read_on.Goals as goal

pub read_in-requires-clause-wants : goal.read_in-requires-clause-wants
read_in-requires-clause-wants g c = idle_wants c.args.endpoint.now c.requires.idle c.requires.goes_on

pub returns-in_err-count-clause-goes : goal.returns-in_err-count-clause-goes
returns-in_err-count-clause-goes g c =
    let s = c.args.endpoint.now in
    let p = c.args.course.now.rule in
    let r = g.R.Read.remaining (device_inner c.args.reader.now) in
    let r1 = g.R.Read.remaining (device_inner c.read_in.new.reader) in
    let q = err_from_is_err_and c.from_residual.result c.from_residual.ensures.1 in
    let is : c.from_residual.result ≡ Err Read = cc (c.in_err-count.ensures.fault) in
    goes_lost c.from_residual.result p Read Read s c.read_in.new.endpoint r r1 (has_failed c.read_in.new.reader) _ _ is refl
    (lost_at_reader p s c.read_in.new.endpoint r r1 (has_failed c.read_in.new.reader) _ (c.in_err-count.ensures.failed.0 refl) c.in_err-count.ensures.kept.1 c.in_err-count.ensures.kept.0 c.requires.sent c.requires.alive
    c.requires.ends)

pub returns-clause-goes : goal.returns-clause-goes
returns-clause-goes g c =
    let s = c.args.endpoint.now in
    let step = c.step_on in
    let came = c.in_ok-count.ensures.read in
    goes_by_step c.args.course.now.rule step.ensures.stepped.0 step.result step.ensures.stepped.1 s step.new.endpoint (take c.in_ok-count.count c.read_in.new.endpoint.input.spare) _ _ (has_failed c.read_in.new.reader)
    _ _ (λ failed. false≢true (c.in_ok-count.ensures.failed.1 failed)) c.requires.alive came.2 (step.ensures.stepped.2 s came.1)
