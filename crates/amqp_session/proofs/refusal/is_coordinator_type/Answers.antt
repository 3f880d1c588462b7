use Rattle.std.proofs.Common.{◌∙◌, sym, ap, None}
use Rattle.amqp_types.specs.Reading.{value_of}
use Rattle.amqp_session.specs.Frames.{is_coordinator_in}
use Rattle.amqp_session.proofs.Coordinators.{peeked}
use Rattle.amqp_session.proofs.refusal.is_coordinator_type.Goals as goal

pub peek-requires : goal.peek-requires
peek-requires c = (c.requires.0, c.requires.1, c.requires.2, c.requires.3, c.requires.5)

pub returns : goal.returns
returns c =
    c.peeks_coordinator.ensures ∙ sym (peeked c.requires.0 c.requires.1 _ (c.peek.ensures c.requires.0 c.requires.1 c.requires.2 c.requires.3 c.requires.5))
    ∙ ap is_coordinator_in (sym (ap (value_of 31 None) c.requires.5 ∙ c.reading_is_exact.ensures.value_only 31 c.requires.0 c.requires.1 c.requires.2 c.requires.3 c.requires.4))
