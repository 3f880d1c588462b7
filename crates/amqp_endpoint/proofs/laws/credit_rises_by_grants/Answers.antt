use Rattle.amqp_endpoint.proofs.Credits.{credit_granted, credit_most}
use Rattle.amqp_endpoint.proofs.laws.credit_rises_by_grants.Goals as goal

pub returns : goal.returns
returns c = record { granted = credit_granted c.credit_rises_by_grants.ensures.granted; most = credit_most c.credit_rises_by_grants.ensures.most }
