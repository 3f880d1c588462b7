use Rattle.std.proofs.Common.{arith}
use Rattle.amqp_frame.proofs.Fronts.{taken_more, length_rest}
use Rattle.amqp_frame.proofs.split.fill_by_steps.Goals as goal

pub loop-taken-preserved : goal.loop-taken-preserved
loop-taken-preserved g c =
    let once = c.fill_once-count.ensures.filled in record {
      bound = omega (arith, once.bound, length_rest c.args.piece.now c.loop-taken.taken);
      bytes =
          taken_more c.args.bytes.now.filled c.loop-taken.bytes.filled c.fill_once-count.new.bytes.filled c.args.piece.now c.loop-taken.taken c.fill_once-count.result
          c.loop-taken.invariant.bytes once.bytes;
      sound = once.sound;
    }
