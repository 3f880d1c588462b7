use Rattle.std.proofs.Common.{arith, ap, ◌∙◌}
use Rattle.std.proofs.lemmas.Result.{err_from_is_err_and}
use Rattle.amqp_types.specs.InHand.{outermost}
use Rattle.amqp_types.specs.Reading.{after, inside}
use Rattle.amqp_types.proofs.Fronts.{due_free, skipped_is}
use Rattle.amqp_types.proofs.skipper.placed_len.Goals as goal

pub returns-clause-exact : goal.returns-clause-exact
returns-clause-exact c =
    skipped_is c.args.depth c.args.bytes.now c.in_ok-rest.rest.now (λ i. omega (arith, c.type_inv.bytes i)) (rw c.of.ensures at c.in_ok-rest.ensures.read)

pub returns-in_err-rest-clause-exact : goal.returns-in_err-rest-clause-exact
returns-in_err-rest-clause-exact c =
    let p = err_from_is_err_and c.from_residual.result c.from_residual.ensures.1 in
    rw (p.1, p.2) (ap after (due_free (inside c.args.depth) (outermost c.args.bytes.now) c.args.bytes.now) ∙ rw c.of.ensures at c.in_err-rest.ensures.read)
