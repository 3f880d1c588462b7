use Rattle.std.proofs.Common.{arith, length, refl}
use Rattle.std.proofs.lemmas.Option.{slice_get_read}
use Rattle.amqp_endpoint.proofs.LimitTables.{fine_more}
use Rattle.amqp_endpoint.proofs.limits.fault.Goals as goal

pub returns-then-is_repeated-clause-some : goal.returns-then-is_repeated-clause-some
returns-then-is_repeated-clause-some g c =
    let here = slice_get_read c.args.limits.now (length c.args.limits.now) c.loop-i.i c.index-limits-i.result refl c.loop-i-test.true c.index-limits-i.is in (
      c.loop-i.invariant.few,
      c.loop-i.invariant.fine,
      (c.index-limits-i.result, here, c.is_good.ensures.0 c.if-not-is_good.false, (c.is_repeated.ensures c.index-limits-i.result here).0 c.if-is_repeated.true),
    )

pub loop-i-preserved : goal.loop-i-preserved
loop-i-preserved g c =
    let here = slice_get_read c.args.limits.now (length c.args.limits.now) c.loop-i.i c.index-limits-i.result refl c.loop-i-test.true c.index-limits-i.is in
    record {
      few = c.loop-i.invariant.few;
      fine = fine_more c.args.limits.now c.loop-i.i c.index-limits-i.result c.loop-i.invariant.fine here (c.is_good.ensures.0 c.if-not-is_good.false)
          (λ so. absurd (grind (arith, c.if-is_repeated.false, (c.is_repeated.ensures c.index-limits-i.result here).1 so)));
    }

pub returns-clause-none : goal.returns-clause-none
returns-clause-none g c = record { few = c.loop-i.invariant.few; fine = λ i r low is. c.loop-i.invariant.fine i r (omega (arith, low, c.loop-i-test.false)) is }
