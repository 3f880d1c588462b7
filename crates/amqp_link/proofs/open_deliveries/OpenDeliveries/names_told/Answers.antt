use Rattle.std.proofs.Common.{◌∙◌}
use Rattle.amqp_link.specs.Keeping.{delivery_of}
use Rattle.amqp_link.proofs.PlaceKeys.{found_any}
use Rattle.amqp_link.proofs.open_deliveries.OpenDeliveries.names_told.Goals as goal

pub returns : goal.returns
returns g c = c.is_some.ensures ∙ found_any (λ d. delivery_of d.now) _ c.find_handed_up.result c.args.self.now.awaiting c.find_handed_up.ensures
