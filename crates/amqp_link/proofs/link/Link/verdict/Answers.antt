use Rattle.amqp_link.proofs.link.Link.verdict.Goals as goal

pub returns-in-Some : goal.returns-in-Some
returns-in-Some g c = c.verdict_of_part.ensures c.args.known
