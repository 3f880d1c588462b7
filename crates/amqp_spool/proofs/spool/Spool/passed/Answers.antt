use Rattle.std.proofs.Common.{◌≡◌, Bool, ap, sym, ◌∙◌}
use Rattle.amqp_spool.specs.declared.journal.Journal.{Journal}
use Rattle.amqp_spool.proofs.Preparing.{has_ready}
use Rattle.amqp_spool.proofs.spool.Spool.passed.Goals as goal

pub returns-clause-has : goal.returns-clause-has
returns-clause-has g c = λ told waiting has.
    let s = c.args.self.now in
    let j = c.passed.new.self in
    let failed : j.failed ≡ s.journal.failed = ap (λ (x : Journal g.row.F.Denot). x.failed) c.passed.ensures.same in
    let same : j ≡ record s.journal { folder = j.folder; failed = j.failed } = c.passed.ensures.same ∙ ap (λ (b : Bool). record s.journal { folder = j.folder; failed = b }) (sym failed) in
    has_ready g.F.Folder.history s j same c.passed.ensures.history told waiting (failed ∙ has.journal.at.alive) has
