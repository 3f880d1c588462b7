use Rattle.amqp_hub.proofs.Livings.{starts, heard, noted_so, starves, hands, stays, finishes, closes}
use Rattle.amqp_hub.proofs.laws.seats_go_on.Goals as goal

pub returns : goal.returns
returns c = λ config.
    let go = c.lives_go_on.ensures config in
    record {
      starts = λ r number m new. starts config go r number m new;
      hears = λ x a b piece s d noted may h done old. let z = noted_so config go x a b piece s noted may h old d done c.a_step_tells_what_it_recorded.ensures in (heard config go x a b piece s noted may h old d done, z.0, z.1);
      starves = λ x a b piece s noted may h done old. starves config go x a b piece s noted may h old done;
      hands = λ x a b bytes h is old. hands config go x a b bytes h is old;
      stays = λ x a b h old. stays config go x a b h old;
      finishes = λ x a b how h old. finishes config go x a b how h old;
      closes = λ x a b h old. closes config go x a b h old;
    }
