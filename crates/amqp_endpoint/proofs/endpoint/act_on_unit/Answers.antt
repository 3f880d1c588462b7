use Rattle.std.proofs.Common.{Some, inl, inr, sym, ap, subst, ◌∙◌}
use Rattle.amqp_frame.specs.Splits.{IsFrameAnswer, IsOver}
use Rattle.amqp_frame.specs.Units.{FaultUnit}
use Rattle.amqp_frame.specs.declared.units.Stage.{Stage}
use Rattle.amqp_endpoint.proofs.endpoint.act_on_unit.Goals as goal

pub returns-in-Err : goal.returns-in-Err
returns-in-Err g c =
    let s = c.args.input.now in
    let answer = subst (λ r. IsFrameAnswer s r) (c.in-Some-frame.is ∙ ap (λ r. Some r) c.in-Err.is) c.frame.ensures in
    elim answer [
      | inl waits ↦ (FaultUnit c.in-Err.field-0 s.filled, waits, sym c.has_room.ensures.value ∙ c.if-not-has_room.false, c.act_on_fault.ensures c.in-Err.field-0 s.filled)
      | inr over ↦ absurd (c.requires.goes_on (subst (λ (t : Stage). IsOver t) (sym over.0) tt))
    ]
