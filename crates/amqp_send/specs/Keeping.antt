-- How a sender's state lies in its fields.
use Rattle.std.specs.String.{string_bytes}
use Rattle.amqp_send.specs.declared.config.SendConfig.{SendConfig}
use Rattle.amqp_send.specs.Sendings.{SendTerms}

module _ {A : Type 0} where
  abbrev pub terms_of : SendConfig A → SendTerms
  terms_of c = record { container_id = string_bytes c.container_id; name = string_bytes c.name }
