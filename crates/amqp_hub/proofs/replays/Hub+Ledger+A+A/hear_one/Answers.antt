use Rattle.std.proofs.Common.{length, ap, refl, ◌∙◌}
use Rattle.amqp_hub.specs.Ledgers.{records_of}
use Rattle.amqp_hub.proofs.Putting.{heard_into, since}
use Rattle.amqp_hub.proofs.replays.Hub+Ledger+A+A.hear_one.Goals as goal

pub returns-clause-done : goal.returns-clause-done
returns-clause-done g c = λ r config n.
    let heard = c.in-Ok.ensures.heard in
    let last = since c.records-before.result.now c.in_ok-noted.noted.items c.args.self.now.keeper c.hear.new.self.keeper (c.records-before.ensures ∙ ap (λ l. records_of l) c.keeper.ensures) c.in_ok-noted.ensures in
    (heard_into c.args.self.now.members c.hear.new.self.members c.args.key c.args.piece.now c.in-Ok.stepped heard.0 c.in_ok-noted.noted.items c.waiting_front.result.now _ c.args.self.now.keeper c.hear.new.self.keeper c.a_step_tells_what_it_recorded.ensures last refl
    c.waiting_front.ensures heard.1).0

pub returns-clause-ledger : goal.returns-clause-ledger
returns-clause-ledger g c =
    let heard = c.in-Ok.ensures.heard in
    let last = since c.records-before.result.now c.in_ok-noted.noted.items c.args.self.now.keeper c.hear.new.self.keeper (c.records-before.ensures ∙ ap (λ l. records_of l) c.keeper.ensures) c.in_ok-noted.ensures in (
      c.in-Ok.ensures.room,
      (heard_into c.args.self.now.members c.hear.new.self.members c.args.key c.args.piece.now c.in-Ok.stepped heard.0 c.in_ok-noted.noted.items c.waiting_front.result.now (length c.waiting_front.result.now)
          c.args.self.now.keeper c.hear.new.self.keeper c.a_step_tells_what_it_recorded.ensures last refl c.waiting_front.ensures heard.1).1,
    )
