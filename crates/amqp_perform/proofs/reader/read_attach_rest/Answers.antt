use Rattle.std.proofs.Common.{refl}
use Rattle.amqp_perform.specs.Performatives.{span, optional_whole}
use Rattle.amqp_perform.proofs.Optionals.{optional_is}
use Rattle.amqp_perform.proofs.reader.read_attach_rest.Goals as goal

pub returns : goal.returns
returns c =
    rw (
      c.in_ok-source.ensures,
      optional_is (span c.in_ok-source.source.now),
      c.in_ok-target.ensures,
      optional_is (span c.in_ok-target.target.now),
      c.in_ok-unsettled.ensures,
      optional_is (span c.in_ok-unsettled.unsettled.now),
      c.in_ok-incomplete_unsettled.ensures,
      optional_is (span c.in_ok-incomplete_unsettled.incomplete_unsettled.now),
      c.in_ok-initial_delivery_count.ensures,
      optional_is (optional_whole c.in_ok-initial_delivery_count.initial_delivery_count),
      c.in_ok-max_message_size.ensures,
      optional_is (span c.in_ok-max_message_size.max_message_size.now),
      c.in_ok-offered_capabilities.ensures,
    ) refl
