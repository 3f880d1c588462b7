use Rattle.std.proofs.Common.{sym, ◌∙◌}
use Rattle.std.specs.Option.{option_copied}
use Rattle.amqp_perform.specs.Tables.{binary}
use Rattle.amqp_perform.proofs.ValueLaws.{read_some, read_none, bytes_there, map_there}
use Rattle.amqp_perform.proofs.telling.binary_value.Goals as goal

pub returns-in_err-value : goal.returns-in_err-value
returns-in_err-value c = rw c.from_residual.ensures (read_none binary c.args.bytes.now _ _ c.of-fields.ensures.count c.of-fields.ensures.items c.in_err-value.ensures)

pub returns : goal.returns
returns c =
    read_some binary c.args.bytes.now _ _ _ _ _ c.parts.result.1.now c.is_some.result c.of-fields.ensures.count c.of-fields.ensures.items c.in_ok-value.ensures
    (bytes_there (option_copied c.in_ok-value.value) ∙ map_there (λ x. x.now) c.in_ok-value.value ∙ sym c.is_some.ensures) c.parts.ensures.items
