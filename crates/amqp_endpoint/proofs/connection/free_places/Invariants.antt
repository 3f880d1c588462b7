use Rattle.std.proofs.Common.{◌≡◌, ◌≤◌, length}
use Rattle.std.specs.Prelude.{vec_capacity}
use Rattle.amqp_session.specs.declared.slot.Slot.TheVariants.{Free}
use Rattle.amqp_session.specs.Places.{tabulate}
use Rattle.amqp_endpoint.proofs.connection.free_places.Given as goal

-- so many free places, and room for the others
abbrev pub invariant-loop-added : goal.invariant-loop-added
invariant-loop-added g l = record {
  same : l.places.items ≡ tabulate 0 l._added (λ k. Free);
  long : length l.places.items ≡ l._added;
  room : l.count ≤ vec_capacity l.places;
}
