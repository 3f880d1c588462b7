use Rattle.std.proofs.Common.{[], ◌≤◌, Bool, cond, None, sym, ap, subst, ◌∙◌, arith}
use Rattle.std.proofs.lemmas.List.{append-nil}
use Rattle.amqp_types.specs.Trees.{Tree, Described, depth_of}
use Rattle.amqp_sasl.specs.Composites.{AreRead, items_of, items_in}
use Rattle.amqp_sasl.proofs.Peeking.{undescribed}
use Rattle.amqp_sasl.proofs.composite.described_items.Goals as goal

pub returns-then-names : goal.returns-then-names
returns-then-names c = λ t s d.
    let h = c.in-Described.ensures t c.args.body.now [] s (sym (append-nil c.args.body.now)) in
    let deep : depth_of (Described h.0 h.1) ≤ 2 = subst (λ (u : Tree). depth_of u ≤ 2) h.2 d in
    let is = c.if-names.ensures h.0 h.4 in
    let read = c.items_of.ensures h.1 h.5 (omega arith) in
    subst (λ u. AreRead c.items_of.result (items_in c.args.code c.args.name.now u)) (sym h.2)
    (subst (λ (b : Bool). AreRead c.items_of.result (cond b (items_of h.1) None)) is read)

pub returns-else-names : goal.returns-else-names
returns-else-names c = λ t s d.
    let h = c.in-Described.ensures t c.args.body.now [] s (sym (append-nil c.args.body.now)) in
    let is = c.if-names.ensures h.0 h.4 in
    ap (items_in c.args.code c.args.name.now) h.2 ∙ ap (λ (b : Bool). cond b (items_of h.1) None) (sym is)

pub returns-in_default : goal.returns-in_default
returns-in_default c = λ t s d.
    undescribed c.args.code c.args.name.now t c.args.body.now c.peek.result (c.peek.ensures t c.args.body.now [] s (sym (append-nil c.args.body.now))) c.in_default.not-Described
