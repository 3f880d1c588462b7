use Rattle.std.proofs.Common.{sym, subst}
use Rattle.amqp_spool.specs.EntryReading.{entry_in}
use Rattle.wuleshomia.specs.declared.data.SpoolEntry.{SpoolEntry}
use Rattle.wuleshomia.specs.Spools.{HasEntry}
use Rattle.wuleshomia.proofs.SpoolPlaces.{has_entry}
use Rattle.wuleshomia.proofs.spool.wuleshomia_spool_read_entry.Goals as goal

pub returns : goal.returns
returns c =
    subst (λ (r : SpoolEntry). HasEntry c.args.bytes.now r) (sym c.of_entry.ensures) (has_entry c.args.bytes.now c.in-Some.field-0-1.now (entry_in c.in-Some.read) c.in-Some.ensures.some)
