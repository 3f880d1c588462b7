use Rattle.amqp_spool.proofs.Spooling.{has_links, keeps_of}
use Rattle.amqp_spool.proofs.spool.Spool.open_link.Goals as goal

pub returns-clause-has : goal.returns-clause-has
returns-clause-has g c = λ told waiting has. has_links g.F.Folder.history told waiting c.args.self.now has c.open.new.self (keeps_of c.open.result c.args.self.now.links c.open.new.self c.open.ensures.waits c.open.ensures.same)
