use Rattle.std.proofs.Common.{◌≡◌, ◌≤◌, ◌*◌, take}
use Rattle.std.specs.Prelude.{sum_by}
use Rattle.amqp_session.specs.Sessions.{slot_ready}
use Rattle.amqp_session.proofs.state.ready.Given as goal

-- the sum so far, and its bound
abbrev pub invariant-loop-slot : goal.invariant-loop-slot
invariant-loop-slot g l = record {
  sum : l.ready ≡ sum_by slot_ready (take l.slot-index l.table);
  most : l.ready ≤ l.slot-index * 1024;
}
