use Rattle.std.proofs.Common.{subst}
use Rattle.amqp_spool.specs.Folders.{History, Now}
use Rattle.amqp_spool.specs.Reads.{IsFound}
use Rattle.amqp_spool.proofs.Lives.{started_with, shown_in_told}
use Rattle.amqp_spool.proofs.Spooling.{has_begun_of, new_still}
use Rattle.amqp_spool.proofs.spool.Spool.start.Goals as goal

pub returns-clause-is : goal.returns-clause-is
returns-clause-is g c = new_still c.args.self.now c.start.new.self c.requires.is c.start.ensures.limits.limit c.start.ensures.limits.segment c.start.result c.start.ensures.failed

pub returns-clause-begun : goal.returns-clause-begun
returns-clause-begun g c = λ t past is empty. has_begun_of g.F.Folder.history c.args.self.now c.start.new.self c.requires.is c.start.result (c.start.ensures.begun t past is empty)

pub returns-clause-started : goal.returns-clause-started
returns-clause-started g c = λ told t past is keeps.
    started_with g.F.Folder.history told t c.args.self.now c.start.new.self c.requires.is keeps c.start.result (c.start.ensures.started keeps.0 keeps.1 keeps.2.here t past is keeps.2.says keeps.3)

pub returns-clause-there : goal.returns-clause-there
returns-clause-there g c = λ told t past n is known keeps most.
    let found : IsFound t = subst (λ (h : History). Now IsFound h) is c.requires.found in
    c.start.ensures.whole t past n is known (λ d left. (keeps.3 d left).0) (shown_in_told told t keeps found n most)
