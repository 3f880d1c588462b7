use Rattle.std.proofs.Common.{ap, subst, sym}
use Rattle.amqp_spool_keeper.specs.Keeping.{KeeperState, Holds}
use Rattle.amqp_spool_keeper.proofs.Holding.{has_of, holds_of}
use Rattle.amqp_spool_keeper.proofs.keeper.SpoolKeeper.close_left.Goals as goal

pub loop-init : goal.loop-init
loop-init g c =
    let h = g.F.Folder.history in
    record {
      sound = c.self.invariant;
      journal = ap (λ (k : KeeperState _). k.journal) c.self.view_is;
      waiting = ap (λ (k : KeeperState _). k.waiting) c.self.view_is;
      room = ap (λ (k : KeeperState _). k.room) c.self.view_is;
      has = λ told waiting held. has_of h told waiting c.self.inside.spool c.self.inside.room (subst (λ k. Holds h told waiting k) (sym c.self.view_is) held);
    }

pub returns-after-loop-clause-waits : goal.returns-after-loop-clause-waits
returns-after-loop-clause-waits g c = λ told waiting held. holds_of g.F.Folder.history told waiting c.loop.self-inside.spool c.loop.self-inside.room (c.loop.invariant.has told waiting held)

pub returns-in_default-clause-waits : goal.returns-in_default-clause-waits
returns-in_default-clause-waits g c = λ told waiting held. holds_of g.F.Folder.history told waiting c.loop.self-inside.spool c.loop.self-inside.room (c.loop.invariant.has told waiting held)
