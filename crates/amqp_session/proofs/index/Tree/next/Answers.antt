use Rattle.std.proofs.Common.{rules, arith, ℕ, subst}
use Rattle.std.proofs.lemmas.Map.Keys.{le_from_not_gt}
use Rattle.std.specs.Ordering.{nat_cmp}
use Rattle.std.specs.Prelude.{List}
use Rattle.std.specs.declared.ops.Bound.TheVariants.{Included}
use Rattle.std.specs.BTreeMap.Range.{IsRangeOf}
use Rattle.amqp_session.specs.declared.index.Kept.{Kept}
use Rattle.std.specs.Range.{range_inclusive_start, range_inclusive_end}
use Rattle.amqp_session.proofs.Nexts.{none_between}
use Rattle.amqp_session.specs.Indexes.{found}
use Rattle.amqp_session.proofs.index.Tree.next.Goals as goal

pub returns : goal.returns
returns g c =
    let h = subst (λ (r : List (ℕ × Kept)). IsRangeOf nat_cmp (Included (range_inclusive_start c.new.result)) (Included (range_inclusive_end c.new.result)) c.self.inside.entries r) c.in_ok-id.ensures.steps (c.range.ensures.in_range (search rules)) in
    let start = c.new.ensures.start in
    let end = c.new.ensures.end in
    let least = h.2 in
    let low = le_from_not_gt c.args.from c.in_ok-id.id.now (rw start at h.1.0.0) in
    let high = le_from_not_gt c.in_ok-id.id.now c.args.last (rw end at h.1.0.1) in
    rw (← c.self.view_is) (low, high, h.1.1, λ q a b. none_between c.args.from c.args.last c.in_ok-id.id.now q (found c.self.inside.entries.entries q) a (omega (arith, b, high)) b (λ x y is. least q (rw start x, rw end y) is))
