use Rattle.std.proofs.Common.{refl}
use Rattle.amqp_serve.proofs.Noting.{stepped_as_noted}
use Rattle.amqp_serve.proofs.steps.serve_piece.Goals as goal

pub returns-clause-stepped : goal.returns-clause-stepped
returns-clause-stepped g c =
    let step = c.serve_piece_into-end.ensures.stepped in
    rw (c.stepped.ensures) (stepped_as_noted _ _ _ _ _ _ _ c.serve_piece_into-end.result.1 (step.1 refl) step.2)
