use Rattle.std.proofs.Common.{rules, refl, sym, ◌∙◌}
use Rattle.amqp_types.specs.declared.key.Key.TheVariants.{Number}
use Rattle.amqp_types.specs.declared.kind.Kind.TheVariants.{Null}
use Rattle.amqp_types.specs.Keys.{key_image}
use Rattle.amqp_types.proofs.LentKeys.{moved, all_moved}
use Rattle.amqp_types.proofs.keys.Keys.insert_all.Goals as goal

pub loop-key-init : goal.loop-key-init
loop-key-init c = record { same = λ octets. refl }

pub loop-key-preserved : goal.loop-key-preserved
loop-key-preserved c = record {
  same = λ octets. moved key_image octets c.args.keys.now c.loop-key.key-index (Number Null 0) c.loop-key.self c.insert_key.new.self c.loop-key-test.true (search rules) ∙ c.loop-key.invariant.same octets;
}

pub returns : goal.returns
returns c = record {
  ok = λ octets. sym (all_moved key_image octets c.args.keys.now c.loop-key.key-index c.loop-key.self c.loop-key-test.false) ∙ c.loop-key.invariant.same octets;
}
