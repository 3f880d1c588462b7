use Rattle.std.proofs.Common.{ap, ◌∙◌}
use Rattle.std.specs.Prelude.{is_some}
use Rattle.amqp_session.proofs.RangeSteps.{open_is}
use Rattle.amqp_session.proofs.ranges.is_open.Goals as goal

pub returns : goal.returns
returns g c = c.is_some.ensures ∙ ap is_some c.get.ensures ∙ open_is c.args.index.now c.args.state.now c.args.id c.requires c.ranges.id.fits
