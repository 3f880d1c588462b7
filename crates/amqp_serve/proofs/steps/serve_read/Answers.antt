use Rattle.std.proofs.Common.{refl}
use Rattle.amqp_serve.proofs.Noting.{stepped_as_noted}
use Rattle.amqp_serve.proofs.steps.serve_read.Goals as goal

pub returns-clause-stepped : goal.returns-clause-stepped
returns-clause-stepped g c = λ s kept.
    let step = c.serve_read_into-end.ensures.stepped in
    rw (c.stepped.ensures) (stepped_as_noted _ _ _ _ _ _ _ c.serve_read_into-end.result.1 (step.1 refl) (step.2 s kept))
