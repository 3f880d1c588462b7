use Rattle.amqp_hub.proofs.Livings.{due_is, alone, over, opened, unopened}
use Rattle.amqp_hub.specs.Kept.{written_life}
use Rattle.amqp_hub.proofs.laws.seats_are_alone.Goals as goal

pub returns : goal.returns
returns c = λ config.
    let law = c.lives_are_alone.ensures config in
    record {
      due = λ x m s. due_is config (c.lives_go_on.ensures config) x m s;
      alone = λ x m s. alone config law x m s;
      over = λ x m s none is. over config law x m s none is;
      opened = λ x m s none is. opened config law x m s none is;
      unopened = λ x m s none is. unopened config law x m s none is;
      held = λ x m s. law.held (written_life x.life m.waiting) m.server s.lives;
    }
