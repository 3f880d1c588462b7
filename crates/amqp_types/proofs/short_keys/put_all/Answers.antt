use Rattle.std.proofs.Common.{rules, refl, sym, ◌∙◌, []}
use Rattle.amqp_types.specs.Images.{image}
use Rattle.amqp_types.specs.Trees.{Octets}
use Rattle.amqp_types.proofs.LentKeys.{moved, all_moved}
use Rattle.amqp_types.proofs.short_keys.put_all.Goals as goal

pub loop-octets-init : goal.loop-octets-init
loop-octets-init c = record { same = λ octets. refl }

pub loop-octets-preserved : goal.loop-octets-preserved
loop-octets-preserved c = record {
  same = λ octets. moved (λ key. image (Octets c.args.kind key.now)) octets c.args.keys.now c.loop-octets.octets-index (record { ref_ptr = (0, 0); now = [] }) c.loop-octets.seen c.insert.new.self
      c.loop-octets-test.true (search rules) ∙ c.loop-octets.invariant.same octets;
}

pub returns : goal.returns
returns c = λ octets.
    sym (all_moved (λ key. image (Octets c.args.kind key.now)) octets c.args.keys.now c.loop-octets.octets-index c.loop-octets.seen c.loop-octets-test.false) ∙ c.loop-octets.invariant.same octets
