use Rattle.std.proofs.Common.{◌∙◌, sym}
use Rattle.amqp_types.specs.declared.key.Key.TheVariants.{Number}
use Rattle.amqp_types.specs.declared.kind.Kind.TheVariants.{Null}
use Rattle.amqp_types.specs.Keys.{key_image}
use Rattle.amqp_types.proofs.LentKeys.{among_at, among_on, among_none}
use Rattle.amqp_types.proofs.few_keys.has.Goals as goal

pub returns-then-are_equal : goal.returns-then-are_equal
returns-then-are_equal c =
    sym (sym c.loop-other.invariant.all
    ∙ among_at key_image (key_image c.args.key.now) c.args.keys.now c.loop-other.other-index (Number Null 0) c.loop-other-test.true (sym c.are_equal.ensures ∙ c.if-are_equal.true))

pub loop-other-preserved : goal.loop-other-preserved
loop-other-preserved c = record {
  all = among_on key_image (key_image c.args.key.now) c.args.keys.now c.loop-other.other-index (Number Null 0) c.loop-other-test.true (sym c.are_equal.ensures ∙ c.if-are_equal.false)
      ∙ c.loop-other.invariant.all;
}

pub returns : goal.returns
returns c = sym (sym c.loop-other.invariant.all ∙ among_none key_image (key_image c.args.key.now) c.args.keys.now c.loop-other.other-index c.loop-other-test.false)
