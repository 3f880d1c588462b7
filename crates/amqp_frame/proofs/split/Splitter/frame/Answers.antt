use Rattle.amqp_frame.proofs.Histories.{no_frame}
use Rattle.amqp_frame.proofs.split.Splitter.frame.Goals as goal

pub returns-in-Wants : goal.returns-in-Wants
returns-in-Wants g c =
    let known = rw (c.in-Frames.is, c.in-Wants.is) at c.self.invariant.judged in
    rw (← c.self.view_is) (no_frame _ c.in-Frames.is (rw c.in-Frames.is known.1))
