use Rattle.std.proofs.Common.{arith, sym, ◌∙◌}
use Rattle.amqp_link.specs.Keeping.{keys_of}
use Rattle.amqp_link.proofs.Iterated.{empty_passed, key_here}
use Rattle.std.proofs.lemmas.List.{at_drop_all}
use Rattle.amqp_link.proofs.open_ids.next_key.Goals as goal

pub loop-at-preserved : goal.loop-at-preserved
loop-at-preserved c = empty_passed c.args.places.now c.loop-at.at c.loop-at-test.true c.in_default.is ∙ c.loop-at.invariant

pub returns-in-Some-clause-some : goal.returns-in-Some-clause-some
returns-in-Some-clause-some c = sym c.loop-at.invariant ∙ key_here c.args.places.now c.loop-at.at c.in-Some.key c.loop-at-test.true c.in-Some.is

pub returns-clause-none : goal.returns-clause-none
returns-clause-none c = sym c.loop-at.invariant ∙ at_drop_all keys_of c.args.places.now c.loop-at.at (omega arith)
