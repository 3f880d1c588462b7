use Rattle.amqp_session.proofs.Recents.{shorter_rising}
use Rattle.amqp_session.proofs.index.Recent.give_back.Goals as goal

pub invariant_of-self : goal.invariant_of-self
invariant_of-self g c = shorter_rising c.self.inside.begun.items c.pop_front.new.self.items c.pop_front.result c.pop_front.ensures.items c.self.invariant
