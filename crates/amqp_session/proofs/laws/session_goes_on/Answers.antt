use Rattle.amqp_session.proofs.Steps.{goes_on_sound}
use Rattle.amqp_session.proofs.laws.session_goes_on.Goals as goal

pub returns : goal.returns
returns c = goes_on_sound c.history_begins.ensures c.history_goes_on.ensures c.open_ids_grow_by_heads.ensures
