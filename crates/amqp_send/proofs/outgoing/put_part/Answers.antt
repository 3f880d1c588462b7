use Rattle.std.proofs.Common.{ℕ, ◌≤◌, List, length, sym, ap, subst, arith}
use Rattle.std.proofs.lemmas.List.{length-take-le}
use Rattle.amqp_perform.specs.Said.{said}
use Rattle.amqp_send.specs.Flows.{most}
use Rattle.amqp_send.specs.Sendings.{share, next_frame}
use Rattle.amqp_send.proofs.Lengths.{share_within, frame_within, most_is, same_frame, same_later}
use Rattle.amqp_send.proofs.outgoing.put_part.Goals as goal

pub slice_bounds-payload-end : goal.slice_bounds-payload-end
slice_bounds-payload-end g c =
    let within : share c.args.flow c.args.message.now ≤ length c.args.message.now.rest =
    share_within c.lengths_of_frames.ensures.lengths c.lengths_of_frames.ensures.null c.args.flow c.args.message.now in
    sym (length-take-le c.args.part.len c.rest.result.now (omega (arith, within, c.requires.len, ap length c.rest.ensures)))

pub put-requires : goal.put-requires
put-requires g c =
    let f = c.args.flow in
    let m = c.args.message.now in
    let is =
    same_frame f m (said c.transfer-frame.result) c.is_begun-begun.result c.args.part.last c.args.part.len c.rest.result.now c.transfer-frame.ensures c.is_begun-begun.ensures
    c.requires.last c.requires.len c.rest.ensures in
    let within : length (next_frame f m) ≤ most f = frame_within c.lengths_of_frames.ensures.lengths c.lengths_of_frames.ensures.null f m c.requires.least in
    subst (λ (x : List ℕ). length x ≤ 4096) (sym is) (omega (arith, within, most_is f c.requires.least))

pub put_continuation-requires : goal.put_continuation-requires
put_continuation-requires g c =
    let f = c.args.flow in
    let m = c.args.message.now in
    let is =
    same_later f m c.is_begun-begun.result c.args.part.last c.args.part.len c.rest.result.now c.if-begun.true c.if-not-part.true c.is_begun-begun.ensures c.requires.last
    c.requires.len c.rest.ensures in
    let within : length (next_frame f m) ≤ most f = frame_within c.lengths_of_frames.ensures.lengths c.lengths_of_frames.ensures.null f m c.requires.least in
    subst (λ (x : List ℕ). length x ≤ 4096) (sym is) (omega (arith, within, most_is f c.requires.least))
