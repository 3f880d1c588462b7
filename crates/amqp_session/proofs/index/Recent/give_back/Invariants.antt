use Rattle.std.proofs.Common.{◌≡◌, length}
use Rattle.amqp_session.specs.Recents.{open_of}
use Rattle.amqp_session.proofs.index.Recent.give_back.Given as goal

abbrev pub invariant-loop-self : goal.invariant-loop-self
invariant-loop-self g l = open_of l.self ≡ open_of l.initial.self

abbrev pub decreases-loop-self : goal.decreases-loop-self
decreases-loop-self g l = length l.self
