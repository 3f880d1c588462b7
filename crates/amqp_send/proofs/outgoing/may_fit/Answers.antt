use Rattle.std.proofs.Common.{◌+◌, ◌<◌, ◌≤◌, min, length, ap, arith}
use Rattle.std.proofs.lemmas.Bool.{leb-false, lt-leb}
use Rattle.amqp_send.specs.Flows.{most}
use Rattle.amqp_send.specs.Sendings.{next_frame}
use Rattle.amqp_send.proofs.Lengths.{frame_least}
use Rattle.amqp_send.proofs.outgoing.may_fit.Goals as goal

pub returns : goal.returns
returns g c = λ no.
    let f = c.args.flow in
    let m = c.args.message.now in
    let over : c.room.result < c.min-least.result = leb-false c.min-least.result c.room.result no in
    let least : min (most f) (length m.rest) ≤ length (next_frame f m) = frame_least c.lengths_of_frames.ensures.lengths c.lengths_of_frames.ensures.null f m c.requires in
    lt-leb (length c.args.output.now + length (next_frame f m)) 8192
    (omega (arith, over, least, c.min-least.ensures, c.most.ensures.value, ap length c.rest.ensures, c.room.ensures))
