use Rattle.std.proofs.Common.{◌≡◌}
use Rattle.slab.specs.Slab.{slab_len}
use Rattle.amqp_gateway.proofs.gateway.note_all.Given as goal

abbrev pub invariant-loop-event : goal.invariant-loop-event
invariant-loop-event l = record {
  can : goal.iterator-loop-event.can_next l.event-iterator;
  ends : goal.iterator-loop-event.is_finite l.event-iterator;
  same : slab_len l.peers ≡ slab_len l.fn.peers;
}
