use Rattle.std.proofs.Common.{arith, ◌≡◌, refl, ap}
use Rattle.amqp_types.specs.declared.kind.Kind.TheVariants as kind
use Rattle.amqp_types.specs.Canonical.{short_form}
use Rattle.amqp_types.specs.Trees.{Number}
use Rattle.amqp_endpoint.proofs.Replies.{uint_short}
use Rattle.amqp_endpoint.proofs.frames.uint.Goals as goal

pub unreachable-requires : goal.unreachable-requires
unreachable-requires c =
    let long = c.in-None.ensures.none (Number kind.Uint c.args.number) (refl, tt, omega arith) in
    omega (arith, long, uint_short c.args.number, c.fits-scratch)
