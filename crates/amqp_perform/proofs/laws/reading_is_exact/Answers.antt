use Rattle.amqp_perform.proofs.BodyLaws.{body_found, body_only}
use Rattle.amqp_perform.proofs.laws.reading_is_exact.Goals as goal

pub returns-clause-found : goal.returns-clause-found
returns-clause-found c = body_found

pub returns-clause-only : goal.returns-clause-only
returns-clause-only c = body_only
