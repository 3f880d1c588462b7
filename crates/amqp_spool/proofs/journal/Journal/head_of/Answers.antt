use Rattle.std.proofs.Common.{refl}
use Rattle.amqp_spool.proofs.Starting.{begins_with, head_there}
use Rattle.amqp_spool.proofs.journal.Journal.head_of.Goals as goal

pub returns-in-Some-clause-begins : goal.returns-in-Some-clause-begins
returns-in-Some-clause-begins g c = begins_with c.args.index c.read.new.out c.in-Some.head (g.F.Folder.history c.args.self.now.folder) c.read.ensures.len c.in-Some.ensures.some c.in_ok-read.ensures.read

pub returns-in-None-clause-whole : goal.returns-in-None-clause-whole
returns-in-None-clause-whole g c = λ t past is has _.
    c.in-None.ensures.none refl has.head has.is (head_there c.args.index c.read.new.out (g.F.Folder.history c.args.self.now.folder) t past c.read.ensures.len is c.in_ok-read.ensures.read has)
