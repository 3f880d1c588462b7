use Rattle.amqp_spool.proofs.Running.{ran_nothing, ran_put, ran_settled, ran_tended}
use Rattle.amqp_spool.proofs.calls.make.Goals as goal

pub returns-in-OpenLink-clause-ran : goal.returns-in-OpenLink-clause-ran
returns-in-OpenLink-clause-ran g c = λ told waiting has. ran_nothing g.F.Folder.history told waiting c.args.spool.now c.open_link.new.self c.open_link.ensures.journal (c.open_link.ensures.has told waiting has)

pub returns-in-CloseLink-clause-ran : goal.returns-in-CloseLink-clause-ran
returns-in-CloseLink-clause-ran g c = λ told waiting has. ran_nothing g.F.Folder.history told waiting c.args.spool.now c.close_link.new.self c.close_link.ensures.journal (c.close_link.ensures.has told waiting has)

pub returns-in-Put-clause-ran : goal.returns-in-Put-clause-ran
returns-in-Put-clause-ran g c = λ told waiting has.
    let e = c.put.ensures in
    ran_put g.F.Folder.history told waiting (record { link = c.in-Put.link; tag = c.in-Put.tag.now; «record» = c.in-Put.bytes.now }) c.put.result c.args.spool.now c.put.new.self has e.journal e.same e.put (λ ps now i from is. e.has ps now i from is)

pub returns-in-Settle-clause-ran : goal.returns-in-Settle-clause-ran
returns-in-Settle-clause-ran g c = λ told waiting has.
    let e = c.settle.ensures in
    ran_settled g.F.Folder.history told waiting c.settle.result c.args.spool.now c.settle.new.self (e.kept told waiting has) (e.settled told waiting has) (λ failed. e.fails failed)

pub returns-in-Tend-clause-ran : goal.returns-in-Tend-clause-ran
returns-in-Tend-clause-ran g c = λ told waiting has.
    let e = c.tend.ensures in
    ran_tended g.F.Folder.history told waiting c.tend.result c.args.spool.now c.tend.new.self (e.kept told waiting has) (λ not. e.has told waiting has not) (λ failed. e.fails failed)

pub returns-in-Free-clause-ran : goal.returns-in-Free-clause-ran
returns-in-Free-clause-ran g c = λ told waiting has.
    let e = c.free.ensures in
    ran_tended g.F.Folder.history told waiting c.free.result c.args.spool.now c.free.new.self (e.kept told waiting has) (λ not. e.has told waiting has not) (λ failed. e.fails failed)
