use Rattle.std.proofs.Common.{arith}
use Rattle.amqp_serve.proofs.Effects.{one_made_by}
use Rattle.amqp_serve.proofs.life_laws.what_steps_make_is_one.Goals as goal

pub returns : goal.returns
returns c config steps m n end end2 within x y = one_made_by config steps m n end end2 (omega (arith, within.some_frame)) x y
