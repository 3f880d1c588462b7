use Rattle.std.proofs.Common.{arith, sym, ◌∙◌}
use Rattle.amqp_session.proofs.Lackings.{lacks_there, none_more, none_at_all}
use Rattle.amqp_session.proofs.state.first_lacking.Goals as goal

pub loop-place-init : goal.loop-place-init
loop-place-init g c = λ h a b. absurd (omega (arith, a, b))

pub returns-then-wants_credit-clause-first : goal.returns-then-wants_credit-clause-first
returns-then-wants_credit-clause-first g c = (
  c.loop-place.auto.place,
  lacks_there c.args.credit c.args.table.now c.loop-place.place c.index-table-place.result _ c.index-table-place.is c.loop-place-test.true (sym c.if-wants_credit.true ∙ c.wants_credit.ensures),
  c.loop-place.invariant,
)

pub loop-place-preserved : goal.loop-place-preserved
loop-place-preserved g c =
    none_more c.args.credit c.args.table.now c.args.from c.loop-place.place c.loop-place.invariant
    (lacks_there c.args.credit c.args.table.now c.loop-place.place c.index-table-place.result _ c.index-table-place.is c.loop-place-test.true (sym c.if-wants_credit.false ∙ c.wants_credit.ensures))

pub returns-clause-first : goal.returns-clause-first
returns-clause-first g c = none_at_all c.args.credit c.args.table.now c.args.from c.loop-place.place (omega (arith, c.loop-place-test.false)) c.loop-place.invariant
