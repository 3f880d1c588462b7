use Rattle.amqp_dump.proofs.printer.write_out.Goals as goal

pub returns-in-Err-clause-begun : goal.returns-in-Err-clause-begun
returns-in-Err-clause-begun g c =
    let part = c.in-Err.ensures.begun in
    (part.front, part.behind, part.written, part.is)
