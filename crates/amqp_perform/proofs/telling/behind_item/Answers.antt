use Rattle.std.proofs.Common.{None, Some, sym, ◌∙◌}
use Rattle.amqp_perform.specs.Rules.{type_in, asked_by}
use Rattle.amqp_perform.proofs.ValueLaws.{item_kept, kept_there, kept_not, kept_absent}
use Rattle.amqp_perform.proofs.telling.behind_item.Goals as goal

pub returns-in_err-is_there : goal.returns-in_err-is_there
returns-in_err-is_there c = λ x rest spelled deep parts.
    rw c.from_residual.ensures
    (item_kept (asked_by c.args.rule) (type_in c.type_of.result) x rest c.args.bytes.now None c.type_of.ensures spelled deep parts (c.in_err-is_there.ensures x rest spelled deep parts))

pub returns-then-is_there : goal.returns-then-is_there
returns-then-is_there c = λ x rest spelled deep parts.
    kept_there (asked_by c.args.rule).1 c.in_ok-is_there.is_there c.in_ok-is_there.rest.now c.if-is_there.true
    ∙ item_kept (asked_by c.args.rule) (type_in c.type_of.result) x rest c.args.bytes.now (Some (c.in_ok-is_there.is_there, c.in_ok-is_there.rest.now)) c.type_of.ensures spelled deep parts
    (c.in_ok-is_there.ensures x rest spelled deep parts)

pub returns-then-is_mandatory : goal.returns-then-is_mandatory
returns-then-is_mandatory c = λ x rest spelled deep parts.
    kept_not (asked_by c.args.rule).1 c.in_ok-is_there.is_there c.in_ok-is_there.rest.now c.if-is_there.false (sym c.is_mandatory.ensures ∙ c.if-is_mandatory.true)
    ∙ item_kept (asked_by c.args.rule) (type_in c.type_of.result) x rest c.args.bytes.now (Some (c.in_ok-is_there.is_there, c.in_ok-is_there.rest.now)) c.type_of.ensures spelled deep parts
    (c.in_ok-is_there.ensures x rest spelled deep parts)

pub returns : goal.returns
returns c = λ x rest spelled deep parts.
    kept_absent (asked_by c.args.rule).1 c.in_ok-is_there.is_there c.in_ok-is_there.rest.now c.if-is_there.false (sym c.is_mandatory.ensures ∙ c.if-is_mandatory.false)
    ∙ item_kept (asked_by c.args.rule) (type_in c.type_of.result) x rest c.args.bytes.now (Some (c.in_ok-is_there.is_there, c.in_ok-is_there.rest.now)) c.type_of.ensures spelled deep parts
    (c.in_ok-is_there.ensures x rest spelled deep parts)
