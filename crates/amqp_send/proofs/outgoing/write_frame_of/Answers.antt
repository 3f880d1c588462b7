use Rattle.amqp_send.proofs.Lengths.{share_within}
use Rattle.amqp_send.proofs.outgoing.write_frame_of.Goals as goal

pub advance-requires : goal.advance-requires
advance-requires g c = rw c.share-part.ensures.len (share_within c.lengths_of_frames.ensures.lengths c.lengths_of_frames.ensures.null c.args.flow.now c.args.message.now)
