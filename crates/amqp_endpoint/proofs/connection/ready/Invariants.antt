use Rattle.std.proofs.Common.{◌≡◌, ◌≤◌, ◌*◌, ◌^◌, take}
use Rattle.std.specs.Prelude.{sum_by}
use Rattle.amqp_endpoint.specs.Connections.{channel_ready}
use Rattle.amqp_endpoint.proofs.connection.ready.Given as goal

-- the sum so far, and its bound
abbrev pub invariant-loop-place : goal.invariant-loop-place
invariant-loop-place g l = record {
  sum : l.ready ≡ sum_by channel_ready (take l.place-index l.places);
  most : l.ready ≤ l.place-index * 2 ^ 18;
}
