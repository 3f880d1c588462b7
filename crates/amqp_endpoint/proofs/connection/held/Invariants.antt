use Rattle.std.proofs.Common.{◌≡◌, ◌≤◌, ◌*◌, ◌^◌, take}
use Rattle.std.specs.Prelude.{sum_by}
use Rattle.amqp_endpoint.specs.Connections.{channel_bytes}
use Rattle.amqp_endpoint.proofs.connection.held.Given as goal

-- the sum so far, and its bound
abbrev pub invariant-loop-place : goal.invariant-loop-place
invariant-loop-place g l = record {
  sum : l.held ≡ sum_by channel_bytes (take l.place-index l.places);
  most : l.held ≤ l.place-index * 2 ^ 52;
}
