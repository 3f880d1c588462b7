use Rattle.std.proofs.Common.{◌≡◌, ◌++◌, take, drop, map}
use Rattle.amqp_session.specs.declared.slot.Slot.TheVariants.{Free}
use Rattle.amqp_endpoint.proofs.connection.free_all.Given as goal

-- the places so far are free, and those that are left are as they were
abbrev pub invariant-loop-place : goal.invariant-loop-place
invariant-loop-place g l = record { places : l.places ≡ map (λ x. Free) (take l.place-index l.initial.places) ++ drop l.place-index l.initial.places }
