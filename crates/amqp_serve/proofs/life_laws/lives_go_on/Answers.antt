use Rattle.amqp_serve.proofs.Livings.{goes_by, starts, hears_on, starves, stays, finishes, closes, hands}
use Rattle.amqp_serve.proofs.life_laws.lives_go_on.Goals as goal

pub returns : goal.returns
returns c = λ config.
    let goes = goes_by c.uses_are_counted.ensures.goes_on in
    record {
      starts = λ m within begins is. starts config m (c.uses_are_counted.ensures.begins config m.endpoint 0 0 within begins) begins is;
      steps = λ l a b r bytes told d e f may x is life.
          hears_on goes c.steps_are_calls.ensures.range c.steps_are_calls.ensures.run c.uses_are_bounded.ensures.config c.uses_are_bounded.ensures.held c.a_step_is_answered_within.ensures config l a b r bytes told d e f may x is life;
      starves = λ l a b r bytes e f may x is life.
          starves goes c.steps_are_calls.ensures.range c.steps_are_calls.ensures.run c.uses_are_bounded.ensures.config c.uses_are_bounded.ensures.held c.a_step_is_answered_within.ensures config l a b r bytes e f may x is life;
      stays = λ l a b h life. stays goes config l a b h life;
      finishes = λ l a b how h life. finishes goes config l a b how h life;
      closes = λ l a b h life. closes goes config l a b h life;
      hands = λ l a b bytes h is life. hands goes config l a b bytes h is life;
    }
