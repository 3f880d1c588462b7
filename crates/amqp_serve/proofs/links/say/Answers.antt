use Rattle.amqp_serve.specs.Serving.{Over}
use Rattle.amqp_serve.specs.Supplying.{half_rule}
use Rattle.amqp_serve.proofs.LinkCalls.{went_out, cut_off}
use Rattle.amqp_serve.proofs.links.say.Goals as goal

pub returns-in-Ok : goal.returns-in-Ok
returns-in-Ok g c = went_out (c.in-Ok.ensures.went (half_rule 0) Over) c.in-Ok.ensures.empty

pub returns-in-Err : goal.returns-in-Err
returns-in-Err g c = cut_off (c.in-Err.ensures.went (half_rule 0) Over)
