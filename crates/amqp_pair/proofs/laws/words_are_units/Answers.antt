use Rattle.amqp_pair.proofs.WordUnits.{word_units}
use Rattle.amqp_pair.proofs.laws.words_are_units.Goals as goal

pub returns : goal.returns
returns c = word_units c.said_is_a_frame.ensures
