use Rattle.std.proofs.Common.{refl, ◌∙◌, sym, []}
use Rattle.amqp_types.specs.Images.{image}
use Rattle.amqp_types.specs.Trees.{Octets}
use Rattle.amqp_types.proofs.LentKeys.{among_at, among_on, among_none}
use Rattle.amqp_types.proofs.short_keys.has.Goals as goal

pub loop-other-init : goal.loop-other-init
loop-other-init c = record { all = λ kind. refl }

pub returns-then-are_same : goal.returns-then-are_same
returns-then-are_same c = λ kind.
    sym (sym (c.loop-other.invariant.all kind)
    ∙ among_at (λ key. image (Octets kind key.now)) (image (Octets kind c.args.octets.now)) c.args.keys.now c.loop-other.other-index (record { ref_ptr = (0, 0); now = [] }) c.loop-other-test.true
    (sym (c.are_same.ensures kind) ∙ c.if-are_same.true))

pub loop-other-preserved : goal.loop-other-preserved
loop-other-preserved c = record {
  all = λ kind. among_on (λ key. image (Octets kind key.now)) (image (Octets kind c.args.octets.now)) c.args.keys.now c.loop-other.other-index (record { ref_ptr = (0, 0); now = [] })
      c.loop-other-test.true (sym (c.are_same.ensures kind) ∙ c.if-are_same.false)
      ∙ c.loop-other.invariant.all kind;
}

pub returns : goal.returns
returns c = λ kind.
    sym (sym (c.loop-other.invariant.all kind)
    ∙ among_none (λ key. image (Octets kind key.now)) (image (Octets kind c.args.octets.now)) c.args.keys.now c.loop-other.other-index c.loop-other-test.false)
