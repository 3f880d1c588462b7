use Rattle.amqp_types.proofs.Canons.{canonical_spells}
use Rattle.amqp_types.proofs.laws.canonical_spells.Goals as goal

pub returns : goal.returns
returns c = canonical_spells
