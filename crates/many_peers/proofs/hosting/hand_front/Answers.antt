use Rattle.many_peers.proofs.Fronts.{front_is_due}
use Rattle.many_peers.proofs.hosting.hand_front.Goals as goal

pub sent-requires : goal.sent-requires
sent-requires c = front_is_due _ c.lend-front.result.now c.lend-front.ensures
