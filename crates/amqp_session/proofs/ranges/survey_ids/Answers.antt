use Rattle.std.proofs.Common.{arith}
use Rattle.amqp_session.proofs.RangeSteps.{covered, told_one, to_settle_one, to_tell_one, not_handed_up, handed_up, untaken_part, told_part, to_settle_part, to_tell_part, wrap_number}
use Rattle.amqp_session.proofs.ranges.survey_ids.Goals as goal

pub returns-clause-survey : goal.returns-clause-survey
returns-clause-survey g c = record {
  untaken = (
      let two = wrap_number c.args.first c.args.last (omega (arith, c.if-first-last.false)) c.ranges.first.fits c.requires.ahead c.args.state.now c.requires.known.apart covered not_handed_up untaken_part in
      omega (arith, two, c.joined.ensures.untaken, c.survey_each-high.ensures.survey.untaken, c.survey_each-low.ensures.survey.untaken)
      );
  told = (
      let two = wrap_number c.args.first c.args.last (omega (arith, c.if-first-last.false)) c.ranges.first.fits c.requires.ahead c.args.state.now c.requires.known.apart told_one handed_up told_part in
      omega (arith, two, c.joined.ensures.told, c.survey_each-high.ensures.survey.told, c.survey_each-low.ensures.survey.told)
      );
  to_settle = (
      let two = wrap_number c.args.first c.args.last (omega (arith, c.if-first-last.false)) c.ranges.first.fits c.requires.ahead c.args.state.now c.requires.known.apart to_settle_one handed_up to_settle_part in
      omega (arith, two, c.joined.ensures.to_settle, c.survey_each-high.ensures.survey.to_settle, c.survey_each-low.ensures.survey.to_settle)
      );
  to_tell = (
      let two = wrap_number c.args.first c.args.last (omega (arith, c.if-first-last.false)) c.ranges.first.fits c.requires.ahead c.args.state.now c.requires.known.apart to_tell_one handed_up to_tell_part in
      omega (arith, two, c.joined.ensures.to_tell, c.survey_each-high.ensures.survey.to_tell, c.survey_each-low.ensures.survey.to_tell)
      );
}
