use Rattle.std.proofs.Common.{◌+◌, map}
use Rattle.amqp_hub.specs.Ledgers.{record_entry}
use Rattle.amqp_hub.proofs.Settling.{ledger, settles_so, still_stuck}
use Rattle.amqp_hub.proofs.ledger.LedgerKeeper.settle.Goals as goal

pub returns-else-waiting-eq0 : goal.returns-else-waiting-eq0
returns-else-waiting-eq0 g c =
    let s = c.self.inside in (
      settles_so (map record_entry s.records.items) s.taken c.in-Some.most c.min.result c.waiting.result s.room s.takes s.has_failed c.args.self.now c.self.view_is c.in-Some.is c.if-self.false c.waiting.ensures c.min.ensures,
      still_stuck (ledger (map record_entry s.records.items) (s.taken + c.min.result) s.room s.takes s.has_failed) c.waiting-2.result c.if-self.false c.waiting-2.ensures c.if-waiting-eq0.false,
    )
