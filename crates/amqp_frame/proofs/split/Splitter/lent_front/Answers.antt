use Rattle.amqp_frame.proofs.Lents.{lent}
use Rattle.amqp_frame.proofs.split.Splitter.lent_front.Goals as goal

pub returns : goal.returns
returns g c =
    rw (← c.self.view_is)
    (lent _ c.args.piece.now c.frame_in.result c.in_ok-size.size c.self.invariant.least (rw c.as_slice.ensures at c.in_ok-size.ensures) c.frame_in.ensures.channel c.frame_in.ensures.body)
