use Rattle.amqp_session.proofs.Lives.{part_elsewhere, part_anew, slot_elsewhere, slot_anew}
use Rattle.amqp_session.proofs.laws.each_link_has_its_own_life.Goals as goal

pub returns : goal.returns
returns c = record { part_elsewhere = part_elsewhere; part_anew = part_anew; elsewhere = slot_elsewhere; anew = slot_anew }
