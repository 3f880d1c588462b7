use Rattle.std.proofs.Common.{refl}
use Rattle.amqp_spool.specs.EntryReading.{entry_in}
use Rattle.amqp_spool.proofs.EntryLists.{one_more, shorter, answered}
use Rattle.amqp_spool.proofs.entry.holds_entries.Goals as goal

pub entries-smaller : goal.entries-smaller
entries-smaller c = shorter c.entries.rest.now c.in-Some.behind.now (entry_in c.in-Some.field-0-0) c.in-Some.ensures.some

pub entries-preserved : goal.entries-preserved
entries-preserved c = record { passed = one_more c.args.body.now c.entries.rest.now c.in-Some.behind.now (entry_in c.in-Some.field-0-0) c.entries.invariant.passed c.in-Some.ensures.some }

pub returns : goal.returns
returns c = answered c.args.body.now c.entries.rest.now c.is_empty.result c.entries.invariant.passed (c.in_default.ensures.none refl) c.is_empty.ensures
