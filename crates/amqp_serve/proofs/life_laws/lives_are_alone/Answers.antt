use Rattle.amqp_serve.proofs.Livings.{alone, over, opened, unopened}
use Rattle.amqp_serve.proofs.life_laws.lives_are_alone.Goals as goal

pub returns : goal.returns
returns c = λ config. record {
  alone = λ l m x. alone config l m x;
  over = λ l m x lives dead. over config l m x lives dead;
  opened = λ l m x lives is. opened config l m x lives is;
  unopened = λ l m x lives is. unopened config l m x lives is;
  held = λ l m x. c.uses_are_bounded.ensures.held config 0 0 x.used.granted x.used.messages m.endpoint x.used.is;
}
