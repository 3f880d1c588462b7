use Rattle.std.proofs.Common.{arith}
use Rattle.amqp_serve.proofs.Cuts.{one_made}
use Rattle.amqp_serve.proofs.step_laws.what_is_made_is_one.Goals as goal

pub returns : goal.returns
returns c r config bytes m n end end2 within x y = one_made r config bytes m n end end2 (omega (arith, within.some_frame)) x y
