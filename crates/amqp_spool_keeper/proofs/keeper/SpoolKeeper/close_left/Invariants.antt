use Rattle.std.proofs.Common.{◌≡◌}
use Rattle.amqp_spool.specs.Sayings.{Puts}
use Rattle.amqp_spool.specs.Spools.{IsSound, Has}
use Rattle.amqp_spool_keeper.specs.Keeping.{Holds}
use Rattle.amqp_spool_keeper.proofs.keeper.SpoolKeeper.close_left.Given as goal

abbrev pub invariant-loop : goal.invariant-loop
invariant-loop g l = record {
  sound : IsSound g.F.Folder.history l.self-inside.spool;
  journal : l.self-inside.spool.journal ≡ l.fn.self.journal;
  waiting : l.self-inside.spool.waiting ≡ l.fn.self.waiting;
  room : l.self-inside.room ≡ l.fn.self.room;
  has : (told waiting : Puts) → Holds g.F.Folder.history told waiting l.fn.self → Has g.F.Folder.history told waiting l.self-inside.spool;
}
