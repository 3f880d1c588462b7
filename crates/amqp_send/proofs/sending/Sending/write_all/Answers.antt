use Rattle.std.proofs.Common.{suc, ◌<◌, refl, sym, ap, ◌∙◌, arith}
use Rattle.amqp_send.specs.Sendings.{wrote, frames_left}
use Rattle.amqp_send.proofs.Writing.{smaller, written}
use Rattle.amqp_send.proofs.sending.Sending.write_all.Goals as goal

pub frames-init : goal.frames-init
frames-init g c = (0, refl, omega arith)

pub frames-smaller : goal.frames-smaller
frames-smaller g c = rw c.write_next.ensures.new (smaller c.lengths_of_frames.ensures.lengths c.lengths_of_frames.ensures.null c.frames.self c.write_next.ensures.frames
    (sym c.write_next.ensures.did ∙ c.frames-test.true))

pub frames-preserved : goal.frames-preserved
frames-preserved g c =
    let less : frames_left (wrote c.frames.self).message < frames_left c.frames.self.message =
    smaller c.lengths_of_frames.ensures.lengths c.lengths_of_frames.ensures.null c.frames.self c.write_next.ensures.frames (sym c.write_next.ensures.did ∙ c.frames-test.true) in
    (suc c.frames.invariant.0, c.write_next.ensures.new ∙ ap wrote c.frames.invariant.1, rw c.write_next.ensures.new (omega (arith, less, c.frames.invariant.2)))

pub returns-clause-new : goal.returns-clause-new
returns-clause-new g c = (written c.args.self.now c.frames.self c.write_next.new.self c.frames.invariant.0 c.frames.invariant.1 c.frames.invariant.2 c.write_next.ensures.new
    (sym c.write_next.ensures.did ∙ c.frames-test.false)).0

pub returns-clause-none : goal.returns-clause-none
returns-clause-none g c = (written c.args.self.now c.frames.self c.write_next.new.self c.frames.invariant.0 c.frames.invariant.1 c.frames.invariant.2 c.write_next.ensures.new
    (sym c.write_next.ensures.did ∙ c.frames-test.false)).1
