use Rattle.std.proofs.Common.{arith, refl}
use Rattle.amqp_types.specs.declared.kind.Kind.TheVariants as kind
use Rattle.amqp_types.specs.Trees.{Number}
use Rattle.amqp_session.proofs.Lengths.{ulong_short}
use Rattle.amqp_session.proofs.replies.ulong.Goals as goal

pub unreachable-requires : goal.unreachable-requires
unreachable-requires c =
    let long = c.in-None.ensures.none (Number kind.Ulong c.args.number) (refl, tt, omega arith) in
    omega (arith, long, ulong_short c.args.number, c.fits-scratch)
