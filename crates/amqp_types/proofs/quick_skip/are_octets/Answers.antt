use Rattle.std.proofs.Common.{refl}
use Rattle.std.proofs.lemmas.Str.{is_utf8-from_IsUtf8}
use Rattle.amqp_types.proofs.quick_skip.are_octets.Goals as goal

pub returns-in-Ok : goal.returns-in-Ok
returns-in-Ok c = λ _ at. rw (c.in-String.is, is_utf8-from_IsUtf8 c.args.octets.now c.in-Ok.ensures.1) refl
