use Rattle.std.proofs.Common.{refl}
use Rattle.amqp_perform.proofs.Optionals.{sender_mode_is, receiver_mode_is}
use Rattle.amqp_perform.proofs.reader.read_attach.Goals as goal

pub returns : goal.returns
returns c =
    rw (
      c.in_ok-text.ensures,
      c.in_ok-name.was,
      c.in_ok-uint.ensures,
      c.in_ok-handle.was,
      c.in_ok-role.ensures,
      c.in_ok-role-2.was,
      c.in_ok-sender_mode.ensures,
      sender_mode_is c.in_ok-sender_mode.field-0,
      c.in_ok-receiver_mode.ensures,
      receiver_mode_is c.in_ok-receiver_mode.field-0,
      c.in_ok-source.ensures,
      c.unwrap_or-snd_settle_mode.ensures,
      c.unwrap_or-rcv_settle_mode.ensures,
    ) refl
