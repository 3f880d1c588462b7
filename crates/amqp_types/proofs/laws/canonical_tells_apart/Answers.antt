use Rattle.amqp_types.proofs.Apart.{canonical_same}
use Rattle.amqp_types.proofs.laws.canonical_tells_apart.Goals as goal

pub returns : goal.returns
returns c = canonical_same
