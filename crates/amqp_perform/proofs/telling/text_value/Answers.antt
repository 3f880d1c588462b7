use Rattle.std.proofs.Common.{◌∙◌}
use Rattle.amqp_perform.proofs.SizeLaws.{not_empty}
use Rattle.amqp_perform.proofs.ValueLaws.{text_read, no_text}
use Rattle.amqp_perform.proofs.telling.text_value.Goals as goal

pub returns-in_err-code : goal.returns-in_err-code
returns-in_err-code c = λ x rest spelled deep parts.
    absurd (not_empty x.tree x.text rest c.args.bytes.now spelled parts c.in_err-code.ensures.cases)

pub returns-then-is_text_code : goal.returns-then-is_text_code
returns-then-is_text_code c = λ x rest spelled deep parts.
    text_read x rest c.args.bytes.now c.in_ok-code.code.now c.in_ok-code._data.now spelled deep parts c.in_ok-code.ensures.cases.0 c.if-is_text_code.ensures ∙ c.any_value.ensures x rest spelled deep parts

pub returns-else-is_text_code : goal.returns-else-is_text_code
returns-else-is_text_code c = λ x rest spelled deep parts.
    no_text c.args.bytes.now c.in_ok-code.code.now c.in_ok-code._data.now c.in_ok-code.ensures.cases.0 c.if-is_text_code.ensures
