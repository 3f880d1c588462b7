use Rattle.std.proofs.Common.{arith}
use Rattle.amqp_spool_keeper.proofs.Holding.{goes_on}
use Rattle.amqp_spool_keeper.proofs.keeper.SpoolKeeperKeeper.make_room.Goals as goal

pub returns-in_default : goal.returns-in_default
returns-in_default g c = record {
  safe = c.write_out.ensures.safe;
  goes_on = λ not. goes_on c.write_out.result c.in_default.not-Failed c.write_out.ensures.told c.write_out.ensures.waits;
  out = λ _. cc (c.if-has_room-2.true, c.if-has_room-2.ensures);
  failed = (λ is. absurd (grind (arith, is)), λ is. absurd (c.in_default.not-Failed (c.write_out.ensures.failed.1 is)));
}

pub returns-in_default-2 : goal.returns-in_default-2
returns-in_default-2 g c = record {
  safe = c.write_out.ensures.safe;
  goes_on = λ not. goes_on c.write_out.result c.in_default.not-Failed c.write_out.ensures.told c.write_out.ensures.waits;
  out = λ is. absurd (grind (arith, is));
  failed = (λ is. absurd (grind (arith, is)), λ is. absurd (c.in_default.not-Failed (c.write_out.ensures.failed.1 is)));
}
