use Rattle.amqp_hub.specs.Ledgers.{is_settled}
use Rattle.amqp_hub.proofs.Turning.{handed_at}
use Rattle.amqp_hub.proofs.replays.Hub+Ledger+A+A.hand_one.Goals as goal

pub returns-clause-done : goal.returns-clause-done
returns-clause-done g c = λ r config n.
    handed_at (is_settled c.args.self.now.keeper) c.args.self.now.members c.sent.new.self.members c.args.key c.args.room c.min-count.result c.lend-front.result.now c.in-Ok.bytes.items
    (c.contains.ensures.0 c.if-not-contains.false) c.lend-front.ensures c.min-count.ensures c.in-Ok.ensures.items c.sent.ensures.sent
