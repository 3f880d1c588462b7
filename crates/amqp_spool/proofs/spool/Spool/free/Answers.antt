use Rattle.std.proofs.Common.{◌≤◌, arith, subst, sym}
use Rattle.amqp_spool.specs.Folders.{History, Now}
use Rattle.amqp_spool.specs.Journals.{HasFloor}
use Rattle.amqp_spool.specs.Spools.{KeepsTold}
use Rattle.amqp_spool.proofs.Consuming.{passed_before}
use Rattle.amqp_spool.proofs.Preparing.{since_between}
use Rattle.amqp_spool.proofs.spool.Spool.free.Goals as goal

pub returns-in-Ok-clause-kept : goal.returns-in-Ok-clause-kept
returns-in-Ok-clause-kept g c = λ told waiting has.
    let h = g.F.Folder.history in
    let since = c.tend-tended.ensures.kept told waiting (c.passed.ensures.has told waiting has) in
    since_between (KeepsTold told) (h c.args.self.now.journal.folder) (h c.passed.new.self.journal.folder) (h c.tend-tended.new.self.journal.folder) (h c.let_go.new.self.journal.folder) c.passed.ensures.history c.let_go.ensures.history since

pub returns-in-Ok-clause-floor : goal.returns-in-Ok-clause-floor
returns-in-Ok-clause-floor g c = λ n ps known most low.
    let h = g.F.Folder.history in
    let few = c.few-passed.result in
    let within : few ≤ n = most few (passed_before few c.in-Some.passed ps c.few-passed.ensures.low (c.in-Some.ensures.passed ps known)) in
    let first = subst (λ (x : History). Now (HasFloor n) x) (sym c.passed.ensures.history) low in
    since_between (HasFloor n) (h c.args.self.now.journal.folder) (h c.passed.new.self.journal.folder) (h c.tend-tended.new.self.journal.folder) (h c.let_go.new.self.journal.folder) c.passed.ensures.history c.let_go.ensures.history (c.tend-tended.ensures.floor n within first)

pub returns-in-Err-clause-kept : goal.returns-in-Err-clause-kept
returns-in-Err-clause-kept g c = λ told waiting has.
    let h = g.F.Folder.history in
    let since = c.tend-tended.ensures.kept told waiting (c.passed.ensures.has told waiting has) in
    since_between (KeepsTold told) (h c.args.self.now.journal.folder) (h c.passed.new.self.journal.folder) (h c.tend-tended.new.self.journal.folder) (h c.let_go.new.self.journal.folder) c.passed.ensures.history c.let_go.ensures.history since

pub returns-in-Err-clause-floor : goal.returns-in-Err-clause-floor
returns-in-Err-clause-floor g c = λ n ps known most low.
    let h = g.F.Folder.history in
    let few = c.few-passed.result in
    let within : few ≤ n = most few (passed_before few c.in-Some.passed ps c.few-passed.ensures.low (c.in-Some.ensures.passed ps known)) in
    let first = subst (λ (x : History). Now (HasFloor n) x) (sym c.passed.ensures.history) low in
    since_between (HasFloor n) (h c.args.self.now.journal.folder) (h c.passed.new.self.journal.folder) (h c.tend-tended.new.self.journal.folder) (h c.let_go.new.self.journal.folder) c.passed.ensures.history c.let_go.ensures.history (c.tend-tended.ensures.floor n within first)

pub returns-in-Ok-clause-passed : goal.returns-in-Ok-clause-passed
returns-in-Ok-clause-passed g c = λ ps known. passed_before c.few-passed.result c.in-Some.passed ps c.few-passed.ensures.low (c.in-Some.ensures.passed ps known)

pub returns-in-Ok-clause-has : goal.returns-in-Ok-clause-has
returns-in-Ok-clause-has g c = λ told waiting has not. c.let_go.ensures.has told waiting (c.tend-tended.ensures.has told waiting (c.passed.ensures.has told waiting has) (λ bad. absurd (grind (arith, c.in-Ok.is, bad))))
