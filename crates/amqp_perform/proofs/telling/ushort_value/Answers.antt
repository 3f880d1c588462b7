use Rattle.std.proofs.Common.{sym, ◌∙◌}
use Rattle.amqp_perform.specs.Tables.{ushort}
use Rattle.amqp_perform.proofs.ValueLaws.{read_some, read_none, whole_there}
use Rattle.amqp_perform.proofs.telling.ushort_value.Goals as goal

pub returns-in_err-value : goal.returns-in_err-value
returns-in_err-value c = rw c.from_residual.ensures (read_none ushort c.args.bytes.now _ _ c.of-fields.ensures.count c.of-fields.ensures.items c.in_err-value.ensures)

pub returns : goal.returns
returns c =
    read_some ushort c.args.bytes.now _ _ _ _ _ c.parts.result.1.now c.is_some.result c.of-fields.ensures.count c.of-fields.ensures.items c.in_ok-value.ensures
    (whole_there c.in_ok-value.value ∙ sym c.is_some.ensures) c.parts.ensures.items
