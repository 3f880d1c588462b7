use Rattle.std.proofs.Common.{refl}
use Rattle.amqp_perform.specs.Performatives.{span}
use Rattle.amqp_perform.proofs.Optionals.{optional_is, default_is}
use Rattle.amqp_perform.proofs.reader.read_open.Goals as goal

pub returns : goal.returns
returns c =
    rw (
      c.in_ok-text.ensures,
      c.in_ok-container_id.was,
      c.in_ok-hostname.ensures,
      optional_is (span c.in_ok-hostname.hostname.now),
      c.in_ok-max_frame_size.ensures,
      c.in_ok-ushort.ensures,
      default_is 65535 c.in_ok-ushort.field-0,
      c.in_ok-idle_time_out.ensures,
      optional_is (span c.in_ok-idle_time_out.idle_time_out.now),
      c.in_ok-outgoing_locales.ensures,
      optional_is (span c.in_ok-outgoing_locales.outgoing_locales.now),
      c.in_ok-incoming_locales.ensures,
      optional_is (span c.in_ok-incoming_locales.incoming_locales.now),
      c.in_ok-offered_capabilities.ensures,
      c.unwrap_or-channel_max.ensures,
    ) refl
