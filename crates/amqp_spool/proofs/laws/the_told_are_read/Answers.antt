use Rattle.amqp_spool.specs.SpoolLaws.{AreRead}
use Rattle.amqp_spool.specs.Spools.{KeepsTold}
use Rattle.amqp_spool.proofs.Histories.{now_and}
use Rattle.amqp_spool.proofs.Lives.{told_are_read}
use Rattle.amqp_spool.proofs.Spooling.{told_now}
use Rattle.amqp_spool.proofs.laws.the_told_are_read.Goals as goal

pub returns : goal.returns
returns g c = λ told waiting has.
    let h = g.F.Folder.history c.args.spool.now.journal.folder in
    now_and (KeepsTold told) (AreRead told) h (told_now g.F.Folder.history told waiting c.args.spool.now has) (λ t is. told_are_read told t is)
