use Rattle.std.proofs.Common.{◌≡◌, take, drop}
use Rattle.amqp_link.specs.Keeping.{Settles}
use Rattle.amqp_link.proofs.places.settle.Given as goal

-- the places so far are settled, and those that are left are as they were
abbrev pub invariant-loop-place : goal.invariant-loop-place
invariant-loop-place g l = record {
  done : Settles l.settling l.initial.slab l.slab (take l.place-index l.initial.places) (take l.place-index l.places) l.all.count l.all.freed;
  rest : drop l.place-index l.places ≡ drop l.place-index l.initial.places;
}
