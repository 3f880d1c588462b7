use Rattle.std.proofs.Common.{arith, ◌+◌, ◌^◌, ◌<◌, ◌∙◌, sym, subst, ℕ, Option}
use Rattle.amqp_session.specs.declared.index.Kept.{Kept}
use Rattle.amqp_session.specs.Indexes.{IsNext}
use Rattle.amqp_session.proofs.Disposed.{known_from}
use Rattle.amqp_session.proofs.Lookups.{found_here, once_at}
use Rattle.amqp_session.proofs.RangeSteps.{covered, told_one, to_settle_one, to_tell_one, not_handed_up, handed_up, untaken_part, told_part, to_settle_part, to_tell_part, noted_one, noted_untaken, noted_told, noted_to_settle, noted_to_tell, last_nothing, left_number}
use Rattle.amqp_session.proofs.ranges.survey_each.Goals as goal

pub standing-requires : goal.standing-requires
standing-requires g c = once_at c.args.state.now c.in-Some.id c.in-Some.kept.handle c.requires.known.apart (omega (arith, c.in-Some.ensures.1, c.loop-id.invariant.small))

pub loop-id-preserved : goal.loop-id-preserved
loop-id-preserved g c =
    let low : c.in-Some.id < 2 ^ 32 = omega (arith, c.in-Some.ensures.1, c.loop-id.invariant.small) in
    let few : c.args.last < c.loop-id.from + 2 ^ 31 = omega (arith, c.loop-id.invariant.few, c.loop-id.invariant.start) in
    let known = known_from c.args.index.now c.args.state.now c.loop-id.from c.args.last c.loop-id.invariant.small c.requires.known in
    let stands = found_here c.args.index.now c.args.state.now.links c.requires.known.indexed c.in-Some.id low c.in-Some.kept (sym c.in-Some.ensures.2) ∙ sym c.standing.ensures in
    record {
      start = omega (arith, c.loop-id.invariant.start, c.in-Some.ensures.0);
      order = omega (arith, c.in-Some.ensures.1);
      few = c.loop-id.invariant.few;
      small = c.loop-id.invariant.small;
      untaken = noted_untaken c.args.index.now c.args.state.now c.loop-id.from c.args.last c.loop-id.invariant.order few c.loop-id.invariant.small known c.in-Some.id c.in-Some.ensures.0 c.in-Some.ensures.1 c.in-Some.ensures.3
          c.requires.known.apart c.loop-id.survey c.noted-survey.result c.standing.result stands c.noted-survey.ensures ∙ c.loop-id.invariant.untaken;
      told = noted_told c.args.index.now c.args.state.now c.loop-id.from c.args.last c.loop-id.invariant.order few c.loop-id.invariant.small known c.in-Some.id c.in-Some.ensures.0 c.in-Some.ensures.1 c.in-Some.ensures.3
          c.requires.known.apart c.loop-id.survey c.noted-survey.result c.standing.result stands c.noted-survey.ensures ∙ c.loop-id.invariant.told;
      to_settle = noted_to_settle c.args.index.now c.args.state.now c.loop-id.from c.args.last c.loop-id.invariant.order few c.loop-id.invariant.small known c.in-Some.id c.in-Some.ensures.0 c.in-Some.ensures.1 c.in-Some.ensures.3
          c.requires.known.apart c.loop-id.survey c.noted-survey.result c.standing.result stands c.noted-survey.ensures ∙ c.loop-id.invariant.to_settle;
      to_tell = noted_to_tell c.args.index.now c.args.state.now c.loop-id.from c.args.last c.loop-id.invariant.order few c.loop-id.invariant.small known c.in-Some.id c.in-Some.ensures.0 c.in-Some.ensures.1 c.in-Some.ensures.3
          c.requires.known.apart c.loop-id.survey c.noted-survey.result c.standing.result stands c.noted-survey.ensures ∙ c.loop-id.invariant.to_tell;
      most = (
          let one = noted_one c.loop-id.survey c.noted-survey.result c.standing.result c.noted-survey.ensures in
          let more = c.in-Some.ensures.0 in omega (arith, c.loop-id.invariant.most, one, more)
          );
    }

pub returns-then-id-last-clause-survey : goal.returns-then-id-last-clause-survey
returns-then-id-last-clause-survey g c =
    let low : c.in-Some.id < 2 ^ 32 = omega (arith, c.in-Some.ensures.1, c.loop-id.invariant.small) in
    let few : c.args.last < c.loop-id.from + 2 ^ 31 = omega (arith, c.loop-id.invariant.few, c.loop-id.invariant.start) in
    let known = known_from c.args.index.now c.args.state.now c.loop-id.from c.args.last c.loop-id.invariant.small c.requires.known in
    let stands = found_here c.args.index.now c.args.state.now.links c.requires.known.indexed c.in-Some.id low c.in-Some.kept (sym c.in-Some.ensures.2) ∙ sym c.standing.ensures in
    record {
      untaken = (
          let all = noted_untaken c.args.index.now c.args.state.now c.loop-id.from c.args.last c.loop-id.invariant.order few c.loop-id.invariant.small known c.in-Some.id c.in-Some.ensures.0 c.in-Some.ensures.1 c.in-Some.ensures.3
          c.requires.known.apart c.loop-id.survey c.noted-survey.result c.standing.result stands c.noted-survey.ensures in
          let none = last_nothing c.args.index.now c.args.state.now c.loop-id.from c.args.last c.loop-id.invariant.order few c.loop-id.invariant.small known c.in-Some.id c.in-Some.ensures.0 c.in-Some.ensures.1 c.in-Some.ensures.3 (omega arith) covered not_handed_up untaken_part in
          omega (arith, all, none, c.loop-id.invariant.untaken)
          );
      told = (
          let all = noted_told c.args.index.now c.args.state.now c.loop-id.from c.args.last c.loop-id.invariant.order few c.loop-id.invariant.small known c.in-Some.id c.in-Some.ensures.0 c.in-Some.ensures.1 c.in-Some.ensures.3
          c.requires.known.apart c.loop-id.survey c.noted-survey.result c.standing.result stands c.noted-survey.ensures in
          let none = last_nothing c.args.index.now c.args.state.now c.loop-id.from c.args.last c.loop-id.invariant.order few c.loop-id.invariant.small known c.in-Some.id c.in-Some.ensures.0 c.in-Some.ensures.1 c.in-Some.ensures.3 (omega arith) told_one handed_up told_part in
          omega (arith, all, none, c.loop-id.invariant.told)
          );
      to_settle = (
          let all = noted_to_settle c.args.index.now c.args.state.now c.loop-id.from c.args.last c.loop-id.invariant.order few c.loop-id.invariant.small known c.in-Some.id c.in-Some.ensures.0 c.in-Some.ensures.1 c.in-Some.ensures.3
          c.requires.known.apart c.loop-id.survey c.noted-survey.result c.standing.result stands c.noted-survey.ensures in
          let none = last_nothing c.args.index.now c.args.state.now c.loop-id.from c.args.last c.loop-id.invariant.order few c.loop-id.invariant.small known c.in-Some.id c.in-Some.ensures.0 c.in-Some.ensures.1 c.in-Some.ensures.3 (omega arith) to_settle_one handed_up to_settle_part in
          omega (arith, all, none, c.loop-id.invariant.to_settle)
          );
      to_tell = (
          let all = noted_to_tell c.args.index.now c.args.state.now c.loop-id.from c.args.last c.loop-id.invariant.order few c.loop-id.invariant.small known c.in-Some.id c.in-Some.ensures.0 c.in-Some.ensures.1 c.in-Some.ensures.3
          c.requires.known.apart c.loop-id.survey c.noted-survey.result c.standing.result stands c.noted-survey.ensures in
          let none = last_nothing c.args.index.now c.args.state.now c.loop-id.from c.args.last c.loop-id.invariant.order few c.loop-id.invariant.small known c.in-Some.id c.in-Some.ensures.0 c.in-Some.ensures.1 c.in-Some.ensures.3 (omega arith) to_tell_one handed_up to_tell_part in
          omega (arith, all, none, c.loop-id.invariant.to_tell)
          );
    }

pub returns-clause-survey : goal.returns-clause-survey
returns-clause-survey g c =
    let few : c.args.last < c.loop-id.from + 2 ^ 31 = omega (arith, c.loop-id.invariant.few, c.loop-id.invariant.start) in
    let known = known_from c.args.index.now c.args.state.now c.loop-id.from c.args.last c.loop-id.invariant.small c.requires.known in
    let next = subst (λ (o : Option (ℕ × Kept)). IsNext c.args.index.now c.loop-id.from c.args.last o) c.in_default.is c.next.ensures in
    record {
      untaken = let none = left_number c.args.index.now c.args.state.now c.loop-id.from c.args.last c.loop-id.invariant.order few c.loop-id.invariant.small known next covered not_handed_up untaken_part in omega (arith, none, c.loop-id.invariant.untaken);
      told = let none = left_number c.args.index.now c.args.state.now c.loop-id.from c.args.last c.loop-id.invariant.order few c.loop-id.invariant.small known next told_one handed_up told_part in omega (arith, none, c.loop-id.invariant.told);
      to_settle = let none = left_number c.args.index.now c.args.state.now c.loop-id.from c.args.last c.loop-id.invariant.order few c.loop-id.invariant.small known next to_settle_one handed_up to_settle_part in omega (arith, none, c.loop-id.invariant.to_settle);
      to_tell = let none = left_number c.args.index.now c.args.state.now c.loop-id.from c.args.last c.loop-id.invariant.order few c.loop-id.invariant.small known next to_tell_one handed_up to_tell_part in omega (arith, none, c.loop-id.invariant.to_tell);
    }
