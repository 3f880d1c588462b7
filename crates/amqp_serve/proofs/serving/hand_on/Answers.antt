use Rattle.std.proofs.Common.{ℕ, List, take, sym, ◌∙◌, subst}
use Rattle.std.proofs.lemmas.Bool.{false≢true}
use Rattle.std.specs.Io.KnownBytes.{Consumes}
use Rattle.amqp_frame.specs.Devices.{device_inner, has_failed}
use Rattle.amqp_serve.proofs.ServingReads.{goes_by_step}
use Rattle.amqp_serve.proofs.serving.hand_on.Goals as goal

pub returns-clause-goes : goal.returns-clause-goes
returns-clause-goes g c =
    let step = c.serve_piece_into-end in
    let fed = step.result.0 in
    let r = g.R.Read.remaining (device_inner c.args.reader.now) in
    let r1 = g.R.Read.remaining (device_inner c.took.new.self) in
    goes_by_step c.args.course.now.rule fed.outcome step.result.1 step.ensures.stepped.0 c.args.endpoint.now step.new.endpoint (take fed.used c.at_hand.result.now) r r1 (has_failed c.took.new.self) _ _
    (λ failed. false≢true (sym c.took.ensures.failed ∙ failed)) c.requires.alive
    (subst (λ (l : List ℕ). Consumes r r1 (take fed.used l)) (sym c.at_hand.ensures) c.took.ensures.bytes) step.ensures.stepped.2
