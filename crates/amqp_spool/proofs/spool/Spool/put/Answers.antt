use Rattle.amqp_spool.proofs.Spooling.{put_of}
use Rattle.amqp_spool.proofs.spool.Spool.put.Goals as goal

pub returns-clause-has : goal.returns-clause-has
returns-clause-has g c = λ told waiting i from has.
    put_of g.F.Folder.history told waiting c.args.self.now has (record { link = c.args.link; tag = c.args.tag.now; «record» = c.args.bytes.now }) i c.put.new.links c.put.new.self from c.put.result c.put.ensures.waits
