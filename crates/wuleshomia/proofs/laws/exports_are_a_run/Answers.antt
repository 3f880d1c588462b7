use Rattle.wuleshomia.proofs.Programs.{exports_run}
use Rattle.wuleshomia.proofs.laws.exports_are_a_run.Goals as goal

pub returns : goal.returns
returns c = λ s t calls answers x. exports_run c.fills_are_feeds.ensures c.steps_are_calls.ensures.run x
