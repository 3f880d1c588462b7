use Rattle.std.proofs.Common.{sym}
use Rattle.amqp_serve.proofs.Noted.{step_noted}
use Rattle.amqp_serve.proofs.step_laws.a_step_tells_what_it_recorded.Goals as goal

pub returns : goal.returns
returns c = λ r told d bytes old new e f x. step_noted told d.receipt x.served.serves x.deeds.told (sym x.deeds.takes)
