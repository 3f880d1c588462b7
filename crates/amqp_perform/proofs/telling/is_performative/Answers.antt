use Rattle.std.proofs.Common.{map, sym, ◌∙◌}
use Rattle.amqp_perform.specs.Rules.{asked_by}
use Rattle.amqp_perform.proofs.Tellings.{none_told, items_are, no_rules, by_rules}
use Rattle.amqp_perform.proofs.telling.is_performative.Goals as goal

pub returns-in_default : goal.returns-in_default
returns-in_default c = sym (none_told c.args.body.now c.in_default.ensures)

pub returns-in_default-rules_of : goal.returns-in_default-rules_of
returns-in_default-rules_of c = sym (no_rules c.args.body.now c.in-Some.list.descriptor _ c.in-Some.ensures c.in_default-rules_of.ensures)

pub returns : goal.returns
returns c =
    let are = items_are c.args.body.now c.in-Some.list.descriptor _ c.requires c.in-Some.ensures in
    c.may_be_all.ensures are.items are.spelled are.deep (are.count ∙ sym c.parts-count.ensures.count) (are.text ∙ sym c.parts-count.ensures.items)
    ∙ by_rules c.args.body.now c.in-Some.list.descriptor _ (map asked_by c.in-Some-rules_of.rules.now) are.items c.in-Some.ensures are.spelled are.deep are.count are.text c.in-Some-rules_of.ensures
