use Rattle.std.proofs.Common.{refl}
use Rattle.amqp_perform.specs.Performatives.{optional_whole}
use Rattle.amqp_perform.proofs.Optionals.{optional_is, default_is}
use Rattle.amqp_perform.proofs.reader.read_begin.Goals as goal

pub returns : goal.returns
returns c =
    rw (
      c.in_ok-remote_channel.ensures,
      optional_is (optional_whole c.in_ok-remote_channel.remote_channel),
      c.in_ok-uint.ensures,
      c.in_ok-next_outgoing_id.was,
      c.in_ok-uint-2.ensures,
      c.in_ok-incoming_window.was,
      c.in_ok-uint-3.ensures,
      c.in_ok-outgoing_window.was,
      c.in_ok-uint-4.ensures,
      default_is 4294967295 c.in_ok-uint-4.field-0,
      c.in_ok-offered_capabilities.ensures,
      c.unwrap_or-handle_max.ensures,
    ) refl
