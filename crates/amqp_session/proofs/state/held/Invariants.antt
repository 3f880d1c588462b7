use Rattle.std.proofs.Common.{◌≡◌, ◌≤◌, ◌*◌, ◌^◌, take}
use Rattle.std.specs.Prelude.{sum_by}
use Rattle.amqp_session.specs.Sessions.{slot_bytes}
use Rattle.amqp_session.proofs.state.held.Given as goal

-- the sum so far, and its bound
abbrev pub invariant-loop-slot : goal.invariant-loop-slot
invariant-loop-slot g l = record {
  sum : l.held ≡ sum_by slot_bytes (take l.slot-index l.table);
  most : l.held ≤ l.slot-index * 2 ^ 42;
}
