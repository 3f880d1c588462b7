use Rattle.std.proofs.Common.{◌≡◌, false}
use Rattle.amqp_gateway.specs.Outlets.{WritesOn}
use Rattle.amqp_gateway.proofs.outlet.Outlet.write_out.Given as goal

abbrev pub invariant-loop : goal.invariant-loop
invariant-loop g l = record {
  goes_on : l.self.has_failed ≡ false;
  went : WritesOn l.fn.self l.self;
  blocks : l.self.blocks ≡ l.fn.self.blocks;
  syncs : l.self.syncs ≡ l.fn.self.syncs;
}
