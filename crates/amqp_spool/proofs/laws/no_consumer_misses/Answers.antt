use Rattle.amqp_spool.proofs.Consuming as proof
use Rattle.amqp_spool.proofs.laws.no_consumer_misses.Goals as goal

pub returns : goal.returns
returns c = proof.no_consumer_misses
