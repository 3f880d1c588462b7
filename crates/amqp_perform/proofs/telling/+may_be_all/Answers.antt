use Rattle.std.proofs.Common.{map, sym, ◌∙◌}
use Rattle.std.proofs.lemmas.List.{nil_from_length}
use Rattle.amqp_perform.specs.Rules.{asked_by}
use Rattle.amqp_perform.proofs.ValueLaws.{none_left, must_be, need_not, refused, accepted}
use Rattle.amqp_perform.proofs.telling.+may_be_all.Goals as goal

pub returns-in_default : goal.returns-in_default
returns-in_default t c = λ xs spelled deep len text. rw (nil_from_length c.args.rules.now c.in_default.ensures.cases) (none_left xs c.args.count len)

pub returns-then-is_mandatory : goal.returns-then-is_mandatory
returns-then-is_mandatory t c = λ xs spelled deep len text.
    rw c.in-Some.ensures.cases.0
    (must_be (asked_by c.in-Some.rule.now) (map asked_by c.in-Some.others.now) xs c.args.count len c.if-count-eq0.true (sym c.is_mandatory.ensures ∙ c.if-is_mandatory.true))

pub returns-then-count-eq0 : goal.returns-then-count-eq0
returns-then-count-eq0 t c = λ xs spelled deep len text.
    rw c.in-Some.ensures.cases.0
    (need_not (asked_by c.in-Some.rule.now) (map asked_by c.in-Some.others.now) xs c.args.count c.args.items.now c.may_be_all.result len text c.if-count-eq0.true
    (sym c.is_mandatory.ensures ∙ c.if-is_mandatory.false) c.may_be_all.ensures)

pub returns-in-None : goal.returns-in-None
returns-in-None t c = λ xs spelled deep len text.
    rw c.in-Some.ensures.cases.0
    (refused (asked_by c.in-Some.rule.now) (map asked_by c.in-Some.others.now) xs c.args.count c.args.items.now spelled deep len text c.if-count-eq0.false c.in-None.ensures)

pub returns-in-Some-behind_item : goal.returns-in-Some-behind_item
returns-in-Some-behind_item t c = λ xs spelled deep len text.
    rw c.in-Some.ensures.cases.0
    (accepted (asked_by c.in-Some.rule.now) (map asked_by c.in-Some.others.now) xs c.args.count c.args.items.now c.in-Some-behind_item.rest.now c.may_be_all-in-Some-behind_item.result spelled deep len text
    c.if-count-eq0.false c.in-Some-behind_item.ensures c.may_be_all-in-Some-behind_item.ensures)
