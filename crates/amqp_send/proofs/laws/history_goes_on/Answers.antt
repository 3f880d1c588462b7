use Rattle.amqp_send.proofs.Histories.{goes_step}
use Rattle.amqp_send.proofs.laws.history_goes_on.Goals as goal

pub returns : goal.returns
returns c = λ terms h s e is all least lawful may.
    let k = goes_step c.lengths_of_frames.ensures.lengths c.lengths_of_frames.ensures.null terms h s e lawful may (record { is = is; all = all; least = least }) in
    (k.is, k.all, k.least)
