use Rattle.amqp_link.specs.Keeping.{SameDeliveries}
use Rattle.amqp_link.proofs.places.number.Given as goal

-- the same deliveries stand under their keys
abbrev pub invariant-loop-place : goal.invariant-loop-place
invariant-loop-place g l = SameDeliveries l.initial.slab l.slab
