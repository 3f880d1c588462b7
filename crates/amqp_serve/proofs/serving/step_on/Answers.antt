use Rattle.amqp_serve.proofs.serving.step_on.Goals as goal

pub returns-clause-stepped : goal.returns-clause-stepped
returns-clause-stepped g c = (c.serve_read_into-end.result.0.outcome, c.serve_read_into-end.ensures.stepped.0, c.serve_read_into-end.ensures.stepped.2)
