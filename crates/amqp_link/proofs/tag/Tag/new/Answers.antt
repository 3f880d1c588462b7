use Rattle.std.proofs.Common.{length, refl, ap}
use Rattle.amqp_link.proofs.Tags.{pads}
use Rattle.amqp_link.proofs.tag.Tag.new.Goals as goal

pub invariant_of-result : goal.invariant_of-result
invariant_of-result c = pads c.copy_from_slice.new.self _ _ (ap length c.copy_from_slice.ensures.after) c.requires refl
