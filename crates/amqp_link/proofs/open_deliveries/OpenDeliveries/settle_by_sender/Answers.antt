use Rattle.amqp_link.proofs.KeptSettles.{sender_settles}
use Rattle.amqp_link.proofs.open_deliveries.OpenDeliveries.settle_by_sender.Goals as goal

pub returns-clause-new : goal.returns-clause-new
returns-clause-new g c = sender_settles c.args.ids c.args.self.now c.settle_handed_up-handed_up.new.self c.settle_ready.new.self c.settle_unfinished.new.self c.settle_handed_up-handed_up.ensures.new
    c.settle_ready.ensures.new c.settle_unfinished.ensures.new
