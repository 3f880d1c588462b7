use Rattle.std.proofs.Common.{List, [], ℕ, Option, sym, ap, subst, ◌∙◌, None}
use Rattle.std.proofs.lemmas.List.{append-nil, take_all}
use Rattle.amqp_types.specs.Reading.{value_of}
use Rattle.amqp_types.specs.Spelling.{Spells}
use Rattle.amqp_types.specs.Trees.{Trees}
use Rattle.amqp_sasl.specs.Composites.{AreRead, items_at, items_from}
use Rattle.amqp_sasl.proofs.composite.read_items.Goals as goal

pub returns : goal.returns
unfolding items_at
returns c =
    let body = c.args.body.now in
    let found = c.in-Ok.ensures.found in
    let spelled = subst (λ (x : List ℕ). Spells found.0 x) (take_all c.in-Ok.len body c.if-len-body.false) found.1 in
    let read = ap (value_of 2 None) (sym (append-nil body)) ∙ c.reading_is_exact.ensures.value_only 2 found.0 body [] spelled found.2 in
    subst (λ (x : Option Trees). AreRead c.described_items.result x) (sym (ap (items_from c.args.code c.args.name.now) read)) (c.described_items.ensures found.0 spelled found.2)
