use Rattle.amqp_pair.proofs.Attached.{attaches}
use Rattle.amqp_pair.proofs.laws.the_attach_is_accepted.Goals as goal

pub returns : goal.returns
returns c = attaches c.reading_is_exact.ensures.value_only c.canonical_spells.ensures
