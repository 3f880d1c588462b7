use Rattle.amqp_pair.proofs.Ways.{moves, takes, writes, acts}
use Rattle.amqp_pair.proofs.laws.units_stay_on_their_way.Goals as goal

pub returns-clause-moves : goal.returns-clause-moves
returns-clause-moves c = moves

pub returns-clause-takes : goal.returns-clause-takes
returns-clause-takes c = takes

pub returns-clause-writes : goal.returns-clause-writes
returns-clause-writes c = writes

pub returns-clause-acts : goal.returns-clause-acts
returns-clause-acts c = acts c.no_unit_begins_another.ensures c.each_unit_has_bytes.ensures
