use Rattle.std.proofs.Common.{arith, length, take}
use Rattle.std.specs.Prelude.{max}
use Rattle.amqp_frame.proofs.Overs.{over_length}
use Rattle.amqp_frame.proofs.split.Splitter.spare_front.Goals as goal

pub invariant_of-self-lent : goal.invariant_of-self-lent
invariant_of-self-lent g c w =
    let i = c.self.invariant in
    let bytes = c.self.inside.bytes in
    let ws = take (max bytes.reach (length c.spare.result.now)) w in
    record { least = i.least; room = omega (arith, i.room, over_length ws bytes.spare); held = i.held; judged = i.judged }
