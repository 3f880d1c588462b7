use Rattle.amqp_perform.proofs.SizeLaws.{not_empty}
use Rattle.amqp_perform.proofs.ValueLaws.{any_read}
use Rattle.amqp_perform.proofs.telling.any_value.Goals as goal

pub returns-in_err-code : goal.returns-in_err-code
returns-in_err-code c = λ x rest spelled deep parts.
    absurd (not_empty x.tree x.text rest c.args.bytes.now spelled parts c.in_err-code.ensures.cases)

pub returns-in_err-rest : goal.returns-in_err-rest
returns-in_err-rest c = λ x rest spelled deep parts. absurd (c.in_err-rest.ensures x.tree x.text rest spelled deep parts)

pub returns : goal.returns
returns c = λ x rest spelled deep parts.
    let behind = c.in_ok-rest.ensures x.tree x.text rest spelled deep parts in
    rw behind (any_read x rest c.args.bytes.now c.in_ok-code.code.now c.in_ok-code._data.now spelled deep parts c.in_ok-code.ensures.cases.0)
