use Rattle.amqp_spool.proofs.Spooling.{has_links}
use Rattle.amqp_spool.proofs.spool.Spool.close_link.Goals as goal

pub returns-clause-has : goal.returns-clause-has
returns-clause-has g c = λ told waiting has. has_links g.F.Folder.history told waiting c.args.self.now has c.close.new.self c.close.ensures.waits
