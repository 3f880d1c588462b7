use Rattle.amqp_spool.proofs.Spooling.{told_now}
use Rattle.amqp_spool.proofs.laws.the_told_are_kept.Goals as goal

pub returns : goal.returns
returns g c = λ told waiting has. told_now g.F.Folder.history told waiting c.args.spool.now has
