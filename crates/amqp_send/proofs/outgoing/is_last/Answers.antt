use Rattle.std.proofs.Common.{◌≤◌, length, false, sym, ap, arith}
use Rattle.std.proofs.lemmas.Bool.{le-leb}
use Rattle.amqp_perform.specs.Said.{said_frame}
use Rattle.amqp_send.specs.Flows.{most}
use Rattle.amqp_send.specs.Sendings.{transfer_said}
use Rattle.amqp_send.proofs.Lengths.{transfer_short}
use Rattle.amqp_send.proofs.outgoing.is_last.Goals as goal

pub returns-then-rest-most-clause-value : goal.returns-then-rest-most-clause-value
returns-then-rest-most-clause-value g c =
    let f = c.args.flow in
    let m = c.args.message.now in
    let laws = c.lengths_of_frames.ensures.lengths in
    let x = transfer_said f.delivery_id m.begun false in
    let sum = laws.payload 0 x m.rest in
    let few = transfer_short laws f.delivery_id m.begun false in
    let within : length (said_frame 0 x m.rest) ≤ most f = omega (arith, sum, few, c.if-rest-most.true, ap length c.rest.ensures, c.most-most.ensures.value) in
    sym (le-leb (length (said_frame 0 x m.rest)) (most f) within)
