use Rattle.amqp_serve.proofs.Rooms.{step_within}
use Rattle.amqp_serve.proofs.step_laws.a_step_is_answered_within.Goals as goal

pub returns : goal.returns
returns c r config told d bytes old new e f within same least none x =
    step_within c.answers_fit_their_room.ensures.units c.answers_fit_their_room.ensures.calls r config within.most_name told x.served.serves same least none x.deeds.told
