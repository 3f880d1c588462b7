use Rattle.amqp_link.proofs.Steps.{all_sound}
use Rattle.amqp_link.proofs.laws.handed_up_in_order.Goals as goal

pub returns : goal.returns
returns c = record { order = λ terms h l all. (all_sound terms h l all).1.front; stood = λ terms h l all. (all_sound terms h l all).1.stood }
