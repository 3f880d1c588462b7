use Rattle.amqp_spool.specs.Batches.{Batch}
use Rattle.wuleshomia.proofs.SpoolPlaces.{has_batch}
use Rattle.wuleshomia.proofs.spool.wuleshomia_spool_read_batch.Goals as goal

pub returns : goal.returns
returns c =
    let b : Batch = record { head = c.in-Some.read; body = c.in-Some.field-0-1.now } in
    has_batch c.args.head.now.secret c.args.bytes.now c.args.number b c.in-Some.ensures.some.0 c.in-Some.ensures.some.1
