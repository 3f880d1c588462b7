use Rattle.std.proofs.Common.{◌∙◌}
use Rattle.amqp_link.proofs.Iterated.{all_ids, keys_there}
use Rattle.amqp_link.proofs.open_deliveries.OpenDeliveries.ids.Goals as goal

pub new-requires : goal.new-requires
new-requires g c = keys_there c.self.inside.slab c.self.inside.order.items _ _ _ _ _ c.self.invariant c.deref.ensures.value

pub returns : goal.returns
returns g c = c.new.ensures ∙ all_ids c.self.inside.slab c.self.inside.order.items _ _ _ _ c.args.self.now c.deref.ensures.value c.self.view_is c.unfinished_id.ensures
