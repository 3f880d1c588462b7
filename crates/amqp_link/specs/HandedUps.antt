-- What a take hands up.
use Rattle.std.specs.Prelude.{◌≡◌}
use Rattle.amqp_link.specs.declared.link.Taken.{Taken}
use Rattle.amqp_link.specs.Links.{Delivery}

-- `taken` is what was handed up of a delivery
pub record IsHandedUp {A : Type 0} (taken : Taken A) (d : Delivery) : Type 0 where
  pub delivery_id : taken.delivery_id ≡ d.delivery_id
  pub delivery_tag : taken.delivery_tag ≡ d.delivery_tag
  pub message_format : taken.message_format ≡ d.message_format
  pub settled : taken.settled ≡ d.settled
  pub message : taken.message ≡ d.message
