use Rattle.std.proofs.Common.{ℕ, ◌+◌, arith, take, get_or, sym, subst, List, Option, Some}
use Rattle.std.proofs.lemmas.List.{take_more}
use Rattle.amqp_spool.specs.declared.segments.Named.{Named}
use Rattle.amqp_spool.specs.Counting.{IsNewestAt}
use Rattle.amqp_spool.proofs.Freeing.{newest_same, newest_more}
use Rattle.amqp_spool.proofs.segments.Segments.newest_at.Goals as goal
use Rattle.amqp_spool.proofs.segments.Segments.newest_at.Goals.{then-saturating_sub-passed, else-saturating_sub-passed}

pub loop-segment-preserved : goal.loop-segment-preserved
loop-segment-preserved c =
    let ns = c.deref-segment-items.result.now in
    let i = c.loop-segment.segment-index in
    let none : Named = record { first = 0; bytes = 0 } in
    let n = get_or ns i none in
    let e = take_more ns i none c.loop-segment-test.true in
    record {
      best = elim c.if-saturating_sub-passed.branch [
        | then-saturating_sub-passed w ↦ subst (λ (o : Option ℕ). IsNewestAt c.args.passed (take (i + 1) ns) o) (sym w.newest-is) (subst (λ (l : List Named). IsNewestAt c.args.passed l (Some w.max.result)) (sym e) (newest_more c.args.passed (take i ns) c.loop-segment.newest n c.loop-segment.invariant.best (omega (arith, c.saturating_sub.ensures, w.if-saturating_sub-passed)) w.max.result (omega (arith, w.max.ensures, w.unwrap_or.ensures))))
        | else-saturating_sub-passed w ↦ subst (λ (o : Option ℕ). IsNewestAt c.args.passed (take (i + 1) ns) o) (sym w.newest-is) (subst (λ (l : List Named). IsNewestAt c.args.passed l c.loop-segment.newest) (sym e) (newest_same c.args.passed (take i ns) c.loop-segment.newest n c.loop-segment.invariant.best (omega (arith, c.saturating_sub.ensures, w.if-saturating_sub-passed))))
      ];
    }
