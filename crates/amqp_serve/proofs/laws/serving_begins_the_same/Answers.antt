use Rattle.std.proofs.Common.{arith}
use Rattle.amqp_serve.specs.Policies.{rule_of}
use Rattle.amqp_serve.proofs.CutFronts.{begins_whole}
use Rattle.amqp_serve.proofs.laws.serving_begins_the_same.Goals as goal

pub returns-clause-made : goal.returns-clause-made
returns-clause-made c p config end bytes unfed old now stand steps made within start x before goes is =
    begins_whole (rule_of p) config end bytes unfed old now stand steps made (omega (arith, within.some_frame)) start x before goes is

pub returns-clause-same : goal.returns-clause-same
returns-clause-same c p config end bytes unfed ended old old2 now new stand steps held has kept keeps within start start2 x before goes y =
    let made = c.serving_follows_the_units.ensures p config end bytes ended old2 new held has kept keeps start2 y in
    begins_whole (rule_of p) config end bytes unfed old now stand steps _ (omega (arith, within.some_frame)) start x before goes made
