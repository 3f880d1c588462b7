use Rattle.amqp_frame.proofs.Fronts.{rest_early, none_taken}
use Rattle.amqp_frame.proofs.split.Splitter.push.Goals as goal

pub returns-clause-full : goal.returns-clause-full
returns-clause-full g c =
    let filled = c.fill.ensures.filled in
    rw (← c.self.view_is) (λ full.
    none_taken c.self.inside.limit c.self.inside.stage c.self.inside.bytes.filled c.args.piece.now c.fill.result c.self.invariant.least (rw filled.bytes at filled.sound.held) filled.bound full)

pub returns-clause-early : goal.returns-clause-early
returns-clause-early g c =
    let filled = c.fill.ensures.filled in
    rw (← c.self.view_is) (λ k h.
    rest_early c.self.inside.limit c.self.inside.stage c.self.inside.bytes.filled c.args.piece.now c.fill.result k c.self.invariant.least (rw filled.bytes at filled.sound.held) filled.bound h)
