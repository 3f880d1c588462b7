use Rattle.amqp_spool.proofs.Spooling.{has_tended, told_stays}
use Rattle.amqp_spool.proofs.spool.Spool.tend.Goals as goal

pub returns-clause-kept : goal.returns-clause-kept
returns-clause-kept g c = λ told waiting has.
    let h = g.F.Folder.history in
    told_stays h told waiting c.args.self.now has (h c.args.self.now.journal.folder) (h c.tend.new.self.folder) (c.tend.ensures.tended has.all has.journal).kept

pub returns-clause-has : goal.returns-clause-has
returns-clause-has g c = λ told waiting has not. has_tended g.F.Folder.history told waiting c.args.self.now has c.tend.new.self ((c.tend.ensures.tended has.all has.journal).stands not)
