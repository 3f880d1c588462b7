use Rattle.std.proofs.Common.{[], ◌≤◌, sym, ap, subst, arith}
use Rattle.std.proofs.lemmas.List.{append-nil}
use Rattle.amqp_types.specs.Trees.{Tree, ListOf, depth_of}
use Rattle.amqp_sasl.specs.Composites.{items_of}
use Rattle.amqp_sasl.proofs.Peeking.{unlisted}
use Rattle.amqp_sasl.proofs.composite.items_of.Goals as goal

pub returns-in-List : goal.returns-in-List
returns-in-List c = λ t s d.
    let h = c.in-List.ensures t c.args.list.now [] s (sym (append-nil c.args.list.now)) in
    let deep : depth_of (ListOf h.0) ≤ 1 = subst (λ (u : Tree). depth_of u ≤ 1) h.2 d in
    (h.0, ap items_of h.2, record { count = h.3; spelled = h.5; flat = omega arith })

pub returns-in_default : goal.returns-in_default
returns-in_default c = λ t s d.
    unlisted t c.args.list.now c.peek.result (c.peek.ensures t c.args.list.now [] s (sym (append-nil c.args.list.now))) c.in_default.not-List
