use Rattle.std.proofs.Common.{ap, ◌∙◌}
use Rattle.amqp_types.specs.InHand.{outermost}
use Rattle.amqp_types.specs.Reading.{after, inside}
use Rattle.amqp_types.proofs.Fronts.{due_free}
use Rattle.amqp_types.proofs.skipper.skip_len.Goals as goal

pub returns-in-Some-clause-exact : goal.returns-in-Some-clause-exact
returns-in-Some-clause-exact c =
    ap after (due_free (inside c.args.depth) (outermost c.args.bytes.now) c.args.bytes.now) ∙ c.in-Some.ensures.read (outermost c.args.bytes.now)
